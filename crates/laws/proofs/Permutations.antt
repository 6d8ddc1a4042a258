-- Permutations of the places below n: they are onto, keep sums and counts, and have inverses.
use Rattle.std.specs.Prelude.{◌≡◌, refl, ◌⊎◌, ◌≢◌, Bool, true, false, ℕ, zero, suc, ◌+◌, ◌<◌, eqb}
use Rattle.std.proofs.Common.{sym, ap, ap₂, ◌∙◌, inl, inr, not-suc-le-zero, le_refl, arith, eqb-true}
use Rattle.std.proofs.Math.Decide.{ℕ_discrete, dec_lt}
use Rattle.std.proofs.lemmas.Bool.{eqb-false}
use Rattle.laws.specs.Tests.{pick}
use Rattle.laws.specs.Sums.{sum, one_if, times, sum_same, sum_change}
use Rattle.laws.specs.Permutations.{Perm, whence}

-- different from all earlier ones: a permutation
pub perm_of : (n : ℕ) (p : ℕ → ℕ) → ((j : ℕ) → j < n → p j < n) → ((j : ℕ) → j < n → (i : ℕ) → i < j → p i ≢ p j) → Perm n p
perm_of n p below apart = record { below = below; apart = λ i j li lj e. go i j li lj e (dec_lt i j) (dec_lt j i) }
  where
    go : (i j : ℕ) → i < n → j < n → p i ≡ p j → Dec (i < j) → Dec (j < i) → i ≡ j
    go i j li lj e (yes l) d = absurd (apart j lj i l e)
    go i j li lj e (no a) (yes l) = absurd (apart i li j l (sym e))
    go i j li lj e (no a) (no b) = omega arith

-- one permutation after another
pub perm_then : {n : ℕ} {p q : ℕ → ℕ} → Perm n p → Perm n q → Perm n (λ i. p (q i))
perm_then {n} {p} {q} hp hq = record {
  below = λ i l. hp.below (q i) (hq.below i l);
  apart = λ i j li lj e. hq.apart i j li lj (hp.apart (q i) (q j) (hq.below i li) (hq.below j lj) e);
}

by_dec : {A : Type 0} → Dec A → ℕ → ℕ → ℕ
by_dec (yes _) a b = a
by_dec (no _) a b = b

-- p, with the place n cut out: what went to n goes where n went
cut : ℕ → (ℕ → ℕ) → ℕ → ℕ
cut n p i = by_dec (ℕ_discrete (p i) n) (p n) (p i)

-- what cut does at i: p i was n, or it was not
cut_cases : (n : ℕ) (p : ℕ → ℕ) (i : ℕ) → ((p i ≡ n) × (cut n p i ≡ p n)) ⊎ ((p i ≢ n) × (cut n p i ≡ p i))
unfolding cut by_dec
cut_cases n p i = go (ℕ_discrete (p i) n)
  where
    go : (d : Dec (p i ≡ n)) → ((p i ≡ n) × (by_dec d (p n) (p i) ≡ p n)) ⊎ ((p i ≢ n) × (by_dec d (p n) (p i) ≡ p i))
    go (yes e) = inl (e, refl)
    go (no ne) = inr (ne, refl)

cut_perm : (n : ℕ) (p : ℕ → ℕ) → Perm (suc n) p → Perm n (cut n p)
cut_perm n p h = record { below = λ i l. low i l (cut_cases n p i); apart = λ i j l m e. far i j l m e (cut_cases n p i) (cut_cases n p j) }
  where
    low : (i : ℕ) → i < n → ((p i ≡ n) × (cut n p i ≡ p n)) ⊎ ((p i ≢ n) × (cut n p i ≡ p i)) → cut n p i < n
    low i l (inl (e, c)) =
        let ne : p n ≢ n = λ q. absurd (let z : i ≡ n = h.apart i n (omega arith) (omega arith) (e ∙ sym q) in let b : ⊥ = omega arith in b) in
        omega (arith, h.below n (le_refl (suc n)))
    low i l (inr (ne, c)) = omega (arith, h.below i (omega arith))

    far : (i j : ℕ) → i < n → j < n → cut n p i ≡ cut n p j
        → ((p i ≡ n) × (cut n p i ≡ p n)) ⊎ ((p i ≢ n) × (cut n p i ≡ p i))
        → ((p j ≡ n) × (cut n p j ≡ p n)) ⊎ ((p j ≢ n) × (cut n p j ≡ p j)) → i ≡ j
    far i j l m e (inl (a, b)) (inl (c, d)) = h.apart i j (omega arith) (omega arith) (omega arith)
    far i j l m e (inl (a, b)) (inr (c, d)) = omega (arith, h.apart n j (omega arith) (omega arith) (omega arith))
    far i j l m e (inr (a, b)) (inl (c, d)) = omega (arith, h.apart i n (omega arith) (omega arith) (omega arith))
    far i j l m e (inr (a, b)) (inr (c, d)) = h.apart i j (omega arith) (omega arith) (omega arith)

-- every place below n is hit
pub onto : (n : ℕ) (p : ℕ → ℕ) → Perm n p → (y : ℕ) → y < n → (x : ℕ) × (x < n) × (p x ≡ y)
onto zero p h y l = absurd (not-suc-le-zero l)
onto (suc n) p h y l = go (onto n (cut n p) (cut_perm n p h)) (ℕ_discrete y n) (ℕ_discrete (p n) n)
  where
    Hit : ℕ → Type 0
    Hit y = (x : ℕ) × (x < suc n) × (p x ≡ y)

    from : (y : ℕ) → ((x : ℕ) × (x < n) × (cut n p x ≡ y)) → Hit y
    from y (x, k, e) =
        elim (cut_cases n p x) [ inl t ↦ (n, le_refl (suc n), sym t.1 ∙ e) | inr t ↦ (x, omega arith, sym t.1 ∙ e) ]

    last : p n ≢ n → ((x : ℕ) × (x < n) × (cut n p x ≡ p n)) → Hit n
    last ne (x, k, e) =
        elim (cut_cases n p x) [
          | inl t ↦ (x, omega arith, t.0)
          | inr t ↦ absurd (omega (arith, h.apart x n (omega arith) (le_refl (suc n)) (sym t.1 ∙ e)))
        ]

    go : ((z : ℕ) → z < n → (x : ℕ) × (x < n) × (cut n p x ≡ z)) → Dec (y ≡ n) → Dec (p n ≡ n) → Hit y
    go ih (yes e) (yes f) = (n, le_refl (suc n), f ∙ sym e)
    go ih (yes e) (no f) = rw e (last f (ih (p n) (omega (arith, h.below n (le_refl (suc n))))))
    go ih (no e) d = from y (ih y (omega arith))

-- a permutation of the places keeps a sum
pub sum_perm : (g p : ℕ → ℕ) (n : ℕ) → Perm n p → sum (λ j. g (p j)) n ≡ sum g n
sum_perm g p zero h = refl
sum_perm g p (suc n) h = go (sum_perm g (cut n p) n (cut_perm n p h)) (onto (suc n) p h n (le_refl (suc n)))
  where
    -- away from the place x that p takes to n, cut and p agree
    same : (x : ℕ) → x < suc n → p x ≡ n → (j : ℕ) → j < n → j ≢ x → g (p j) ≡ g (cut n p j)
    same x k e j l ne =
        elim (cut_cases n p j) [ inl t ↦ absurd (ne (h.apart j x (omega arith) k (t.0 ∙ sym e))) | inr t ↦ ap g (sym t.1) ]

    at : (x : ℕ) → x < suc n → p x ≡ n → Dec (x ≡ n) → sum (λ j. g (cut n p j)) n ≡ sum g n
        → sum (λ j. g (p j)) n + g (p n) ≡ sum g n + g n
    at x k e (yes q) ih =
        ap₂ (λ (a b : ℕ). a + b)
        (sum_same (λ j. g (p j)) (λ j. g (cut n p j)) n (λ j l. same x k e j l (omega arith)) ∙ ih) (ap g (sym (ap p q) ∙ e))
    at x k e (no q) ih =
        let c : g (cut n p x) ≡ g (p n) = elim (cut_cases n p x) [ inl t ↦ ap g t.1 | inr t ↦ absurd (t.0 e) ] in
        omega (arith, ap g e, sum_change (λ j. g (p j)) (λ j. g (cut n p j)) n x (omega arith) (same x k e))

    go : sum (λ j. g (cut n p j)) n ≡ sum g n → ((x : ℕ) × (x < suc n) × (p x ≡ n))
        → sum (λ j. g (p j)) n + g (p n) ≡ sum g n + g n
    go ih (x, k, e) = at x k e (ℕ_discrete x n) ih

pub times_perm : (x : ℕ) (f p : ℕ → ℕ) (n : ℕ) → Perm n p → times x (λ j. f (p j)) n ≡ times x f n
times_perm x f p n h = sum_perm (λ j. one_if (eqb x (f j))) p n h

-- ---- the inverse

pub whence_right : (p : ℕ → ℕ) (j n x : ℕ) → x < n → p x ≡ j → (p (whence p j n) ≡ j) × (whence p j n < n)
whence_right p j zero x l e = absurd (omega arith)
whence_right p j (suc n) x l e = go (eqb (p n) j) refl (whence_right p j n x)
  where
    go : (t : Bool) → eqb (p n) j ≡ t → (x < n → p x ≡ j → (p (whence p j n) ≡ j) × (whence p j n < n))
        → (p (pick t n (whence p j n)) ≡ j) × (pick t n (whence p j n) < suc n)
    go true f ih = (eqb-true (p n) j f, omega arith)
    go false f ih =
        let ne : x ≢ n = λ q. eqb-false (p n) j f (sym (ap p q) ∙ e) in
        let (a, b) = ih (omega arith) e in
        (a, omega arith)

pub whence_of : (n : ℕ) (p : ℕ → ℕ) → Perm n p → (j : ℕ) → j < n → (p (whence p j n) ≡ j) × (whence p j n < n)
whence_of n p h j l = let (x, k, e) = onto n p h j l in whence_right p j n x k e

-- the inverse of a permutation is one
pub whence_perm : (n : ℕ) (p : ℕ → ℕ) → Perm n p → Perm n (λ j. whence p j n)
whence_perm n p h = record {
  below = λ j l. (whence_of n p h j l).1;
  apart = λ i j li lj e. sym (whence_of n p h i li).0 ∙ ap p e ∙ (whence_of n p h j lj).0;
}

-- of what p does only the places below n count
pub whence_same : (p q : ℕ → ℕ) (j n : ℕ) → ((i : ℕ) → i < n → p i ≡ q i) → whence p j n ≡ whence q j n
whence_same p q j zero h = refl
whence_same p q j (suc n) h =
    ap₂ (λ (x y : ℕ). pick (eqb x j) n y) (h n (le_refl (suc n))) (whence_same p q j n (λ i l. h i (omega arith)))
