-- Sums and counts below n.
use Rattle.std.specs.Prelude.{◌≡◌, refl, ◌≢◌, Bool, true, false, ℕ, zero, suc, ◌+◌, ◌*◌, ◌≤◌, ◌<◌, eqb}
use Rattle.std.proofs.Common.{sym, ap, ap₂, ◌∙◌, not-suc-le-zero, le_refl, add-suc, arith, eq-eqb, ne_eqb}
use Rattle.std.proofs.Math.Decide.{ℕ_discrete}

-- f 0 + .. + f (n - 1)
abbrev pub sum : (ℕ → ℕ) → ℕ → ℕ
sum f zero = 0
sum f (suc n) = sum f n + f n

abbrev pub one_if : Bool → ℕ
one_if true = 1
one_if false = 0

-- how often x is among f 0, .., f (n - 1)
abbrev pub times : ℕ → (ℕ → ℕ) → ℕ → ℕ
times x f n = sum (λ j. one_if (eqb x (f j))) n

pub sum_same : (f g : ℕ → ℕ) (n : ℕ) → ((j : ℕ) → j < n → f j ≡ g j) → sum f n ≡ sum g n
sum_same f g zero h = refl
sum_same f g (suc n) h = ap₂ (λ (a b : ℕ). a + b) (sum_same f g n (λ j l. h j (omega arith))) (h n (le_refl (suc n)))

pub times_same : (x : ℕ) {f g : ℕ → ℕ} (n : ℕ) → ((j : ℕ) → j < n → f j ≡ g j) → times x f n ≡ times x g n
times_same x {f} {g} n h = sum_same (λ j. one_if (eqb x (f j))) (λ j. one_if (eqb x (g j))) n (λ j l. ap (λ (y : ℕ). one_if (eqb x y)) (h j l))

-- two sums that differ at one place only
pub sum_change : (f g : ℕ → ℕ) (n i : ℕ) → i < n → ((j : ℕ) → j < n → j ≢ i → f j ≡ g j) → sum f n + g i ≡ sum g n + f i
sum_change f g zero i l h = absurd (not-suc-le-zero l)
sum_change f g (suc n) i l h = go (ℕ_discrete i n) (λ k. sum_change f g n i k (λ j m. h j (omega arith)))
  where
    go : Dec (i ≡ n) → (i < n → sum f n + g i ≡ sum g n + f i) → sum f n + f n + g i ≡ sum g n + g n + f i
    go (yes e) ih =
        let s : sum f n ≡ sum g n = sum_same f g n (λ j k. h j (omega arith) (omega arith)) in
        omega (arith, ap f e, ap g e)
    go (no ne) ih = omega (arith, ih (omega arith), h n (le_refl (suc n)) (λ e. ne (sym e)))

-- the first summand apart
pub sum_first : (f : ℕ → ℕ) (n : ℕ) → sum f (suc n) ≡ f 0 + sum (λ j. f (suc j)) n
sum_first f zero = omega arith
sum_first f (suc n) = omega (arith, sum_first f n)

-- one number more is counted where it is the one sought
pub times_miss : (x : ℕ) (f : ℕ → ℕ) (n : ℕ) → x ≢ f n → times x f (suc n) ≡ times x f n
times_miss x f n ne = omega (arith, ap one_if (ne_eqb x (f n) ne))

pub times_hit : (x : ℕ) (f : ℕ → ℕ) (n : ℕ) → x ≡ f n → times x f (suc n) ≡ times x f n + 1
times_hit x f n e = ap (λ (b : Bool). times x f n + one_if b) (eq-eqb x (f n) e)

pub times_none : (x : ℕ) (f : ℕ → ℕ) (n : ℕ) → ((j : ℕ) → j < n → x ≢ f j) → times x f n ≡ 0
times_none x f zero h = refl
times_none x f (suc n) h = times_miss x f n (h n (omega arith)) ∙ times_none x f n (λ j l. h j (omega arith))

-- a sum of sums
pub sum_add : (f g : ℕ → ℕ) (n : ℕ) → sum (λ i. f i + g i) n ≡ sum f n + sum g n
sum_add f g zero = omega arith
sum_add f g (suc n) = omega (arith, sum_add f g n)

pub sum_none : (f : ℕ → ℕ) (n : ℕ) → ((i : ℕ) → i < n → f i ≡ 0) → sum f n ≡ 0
sum_none f zero h = refl
sum_none f (suc n) h = omega (arith, h n (le_refl (suc n)), sum_none f n (λ i l. h i (omega arith)))

pub sum_most : (f g : ℕ → ℕ) (n : ℕ) → ((i : ℕ) → i < n → f i ≤ g i) → sum f n ≤ sum g n
sum_most f g zero h = omega arith
sum_most f g (suc n) h = omega (arith, h n (le_refl (suc n)), sum_most f g n (λ i l. h i (omega arith)))

-- one summand is at most the sum
pub sum_one : (f : ℕ → ℕ) (n i : ℕ) → i < n → f i ≤ sum f n
sum_one f zero i l = absurd (not-suc-le-zero l)
sum_one f (suc n) i l = go (ℕ_discrete i n) (sum_one f n i)
  where
    go : Dec (i ≡ n) → (i < n → f i ≤ sum f n) → f i ≤ sum f n + f n
    go (yes e) ih = omega (arith, ap f e)
    go (no ne) ih = omega (arith, ih (omega arith))

-- all but one summand are 0
pub sum_only : (f : ℕ → ℕ) (n i : ℕ) → i < n → ((j : ℕ) → j < n → j ≢ i → f j ≡ 0) → sum f n ≡ f i
sum_only f n i l h = omega (arith, sum_change f (λ j. 0) n i l h, sum_none (λ j. 0) n (λ j k. refl))

pub sum_times : (f : ℕ → ℕ) (c n : ℕ) → sum (λ i. f i * c) n ≡ sum f n * c
sum_times f c zero = omega arith
sum_times f c (suc n) = omega (arith, sum_times f c n)

-- the first a summands, and b more
pub sum_join : (f : ℕ → ℕ) (a b : ℕ) → sum f (a + b) ≡ sum f a + sum (λ i. f (a + i)) b
sum_join f a zero = let e : a + 0 ≡ a = omega arith in ap (sum f) e ∙ omega arith
sum_join f a (suc b) = ap (sum f) (add-suc a b) ∙ omega (arith, sum_join f a b)
