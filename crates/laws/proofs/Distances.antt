-- Laws of the votes that two lists have in common and of the places in which they differ.
use Rattle.std.specs.Prelude.{◌≡◌, refl, ◌↔◌, ℕ, zero, suc, ◌+◌, ◌-◌, ◌≤◌, ◌<◌, min, eqb}
use Rattle.std.proofs.Common.{sym, ap, ap₂, ◌∙◌, le_refl, arith, eq-eqb, ne_eqb}
use Rattle.std.proofs.Math.Decide.{ℕ_discrete, dec_lt}
use Rattle.laws.specs.Tests.{differ, is_differ, not_differ}
use Rattle.laws.specs.Sums.{sum, one_if, times, times_hit, times_miss, times_none, sum_same, sum_change, sum_add, sum_none, sum_most, sum_one, sum_only}
use Rattle.laws.specs.Subsets.{many_below}
use Rattle.laws.specs.Distances.{common, distance}

-- the order in which the first list stands does not matter
pub distance_same : (M : ℕ) (f f' g : ℕ → ℕ) (n : ℕ) → ((x : ℕ) → times x f n ≡ times x f' n) → distance M f g n ≡ distance M f' g n
unfolding distance common
distance_same M f f' g n h =
    ap (λ (c : ℕ). n - c)
    (sum_same (λ x. min (times x f n) (times x g n)) (λ x. min (times x f' n) (times x g n)) M (λ x l. ap (λ (a : ℕ). min a (times x g n)) (h x)))

-- nor which of the two comes first
pub distance_swap : (M : ℕ) (f g : ℕ → ℕ) (n : ℕ) → distance M f g n ≡ distance M g f n
unfolding distance common
distance_swap M f g n =
    ap (λ (c : ℕ). n - c)
    (sum_same (λ x. min (times x f n) (times x g n)) (λ x. min (times x g n) (times x f n)) M (λ x l. omega arith))

more : (x : ℕ) (f : ℕ → ℕ) (n : ℕ) → times x f n ≤ times x f (suc n)
more x f n = omega arith

-- the votes in common, and the places with different votes, are at least all
covered : (M : ℕ) (f g : ℕ → ℕ) (n : ℕ) → ((j : ℕ) → j < n → f j < M) → n ≤ common M f g n + many_below (λ j. differ (f j) (g j)) n
unfolding common
covered M f g zero h = omega arith
covered M f g (suc n) h = go (ℕ_discrete (f n) (g n)) (covered M f g n (λ j l. h j (omega arith)))
  where
    now : ℕ → ℕ
    now x = min (times x f (suc n)) (times x g (suc n))

    was : ℕ → ℕ
    was x = min (times x f n) (times x g n)

    go : Dec (f n ≡ g n) → n ≤ sum was M + many_below (λ j. differ (f j) (g j)) n
        → suc n ≤ sum now M + (many_below (λ j. differ (f j) (g j)) n + one_if (differ (f n) (g n)))
    go (yes e) ih = omega (
      arith,
      ap one_if (not_differ e),
      sum_change now was M (f n) (h n (le_refl (suc n))) (λ x l ne. ap₂ min (times_miss x f n ne) (times_miss x g n (λ q. ne (q ∙ sym e)))),
      ap₂ min (times_hit (f n) f n refl) (times_hit (f n) g n e),
    )
    go (no ne) ih = omega (arith, ap one_if (is_differ ne), sum_most was now M (λ x l. omega (arith, more x f n, more x g n)))

-- the distance is at most the number of places in which the lists, as they stand, differ
pub distance_most : (M : ℕ) (f g : ℕ → ℕ) (n : ℕ) → ((j : ℕ) → j < n → f j < M) → distance M f g n ≤ many_below (λ j. differ (f j) (g j)) n
unfolding distance
distance_most M f g n h = omega (arith, covered M f g n h)

-- ---- the distance in another way: the votes that the first list has more often than the second

-- each of n votes is counted once
counted_once : (M : ℕ) (f : ℕ → ℕ) (n : ℕ) → ((j : ℕ) → j < n → f j < M) → sum (λ x. times x f n) M ≡ n
counted_once M f zero h = sum_none (λ x. 0) M (λ x l. refl)
counted_once M f (suc n) h =
    sum_add (λ x. times x f n) (λ x. one_if (eqb x (f n))) M
    ∙ omega (
      arith,
      counted_once M f n (λ j l. h j (omega arith)),
      sum_only (λ x. one_if (eqb x (f n))) M (f n) (h n (le_refl (suc n))) (λ x l ne. ap one_if (ne_eqb x (f n) ne)),
      ap one_if (eq-eqb (f n) (f n) refl),
    )

pub distance_surplus : (M : ℕ) (f g : ℕ → ℕ) (n : ℕ) → ((j : ℕ) → j < n → f j < M) → distance M f g n ≡ sum (λ x. times x f n - times x g n) M
unfolding distance common
distance_surplus M f g n h =
    omega (
      arith,
      counted_once M f n h,
      sum_add (λ x. min (times x f n) (times x g n)) (λ x. times x f n - times x g n) M,
      sum_same (λ x. min (times x f n) (times x g n) + (times x f n - times x g n)) (λ x. times x f n) M (λ x l. omega arith),
    )

-- ---- no distance: each vote as often

pub distance_zero : (M : ℕ) (f g : ℕ → ℕ) (n : ℕ) → ((j : ℕ) → j < n → f j < M) → ((j : ℕ) → j < n → g j < M)
    → (distance M f g n ≡ 0) ↔ ((x : ℕ) → times x f n ≡ times x g n)
distance_zero M f g n hf hg = (λ e x. go x e (dec_lt x M), λ same. distance_surplus M f g n hf ∙ sum_none (λ x. times x f n - times x g n) M (λ x l. omega (arith, same x)))
  where
    go : (x : ℕ) → distance M f g n ≡ 0 → Dec (x < M) → times x f n ≡ times x g n
    go x e (yes l) = omega (
      arith,
      e,
      distance_swap M f g n,
      distance_surplus M f g n hf,
      distance_surplus M g f n hg,
      sum_one (λ x. times x f n - times x g n) M x l,
      sum_one (λ x. times x g n - times x f n) M x l,
    )
    go x e (no l) = absent f hf ∙ sym (absent g hg)
      where
        absent : (f : ℕ → ℕ) → ((j : ℕ) → j < n → f j < M) → times x f n ≡ 0
        absent f h = times_none x f n (λ j k e. omega (arith, h j k))
