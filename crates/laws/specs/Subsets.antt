-- Sets of numbers below n, each given by a test: how many numbers meet it.
use Rattle.std.specs.Prelude.{◌≡◌, refl, ◌≢◌, Bool, true, false, ℕ, zero, suc, ◌+◌, ◌^◌, ◌≤◌, ◌<◌}
use Rattle.std.proofs.Common.{ap, ◌∙◌, le_refl, arith}
use Rattle.laws.specs.Tests.{below, is_below, not_below}
use Rattle.laws.specs.Sums.{sum, one_if, sum_none, sum_most, sum_join}

-- how many numbers below n meet a test
abbrev pub many_below : (ℕ → Bool) → ℕ → ℕ
many_below test n = sum (λ i. one_if (test i)) n

-- ---- laws

one_within : (a b : Bool) → (a ≡ true → b ≡ true) → one_if a ≤ one_if b
one_within true b h = rw (h refl) (le_refl 1)
one_within false b h = omega arith

-- what meets one test meets another
pub below_within : (t u : ℕ → Bool) (n : ℕ) → ((i : ℕ) → i < n → t i ≡ true → u i ≡ true) → many_below t n ≤ many_below u n
below_within t u n h = sum_most (λ i. one_if (t i)) (λ i. one_if (u i)) n (λ i l. one_within (t i) (u i) (h i l))

pub below_none : (t : ℕ → Bool) (n : ℕ) → ((i : ℕ) → i < n → t i ≡ false) → many_below t n ≡ 0
below_none t n h = sum_none (λ i. one_if (t i)) n (λ i l. ap one_if (h i l))

pub below_all : (t : ℕ → Bool) (n : ℕ) → ((i : ℕ) → i < n → t i ≡ true) → many_below t n ≡ n
below_all t zero h = refl
below_all t (suc n) h = omega (arith, ap one_if (h n (le_refl (suc n))), below_all t n (λ i l. h i (omega arith)))

pub below_most : (t : ℕ → Bool) (n : ℕ) → many_below t n ≤ n
below_most t n = rw (below_all (λ i. true) n (λ i l. refl)) at (below_within t (λ i. true) n (λ i l e. refl))

-- the numbers below a, of a + b
pub below_first : (a b : ℕ) → many_below (λ i. below i a) (a + b) ≡ a
below_first a b =
    sum_join (λ i. one_if (below i a)) a b
    ∙ omega (
      arith,
      below_all (λ i. below i a) a (λ i l. is_below l),
      below_none (λ i. below (a + i) a) b (λ i l. not_below {a = a + i} {b = a} (omega arith)),
    )

-- numbers below 2 ^ (n + 1): those without bit n, and those with it
pub below_double : (t : ℕ → Bool) (n : ℕ) → many_below t (2 ^ suc n) ≡ many_below t (2 ^ n) + many_below (λ i. t (2 ^ n + i)) (2 ^ n)
below_double t n =
    let e : 2 ^ suc n ≡ 2 ^ n + 2 ^ n = omega arith in
    ap (many_below t) e ∙ sum_join (λ i. one_if (t i)) (2 ^ n) (2 ^ n)

-- where some are counted, one of them meets the test
pub below_some : (t : ℕ → Bool) (n : ℕ) → many_below t n ≢ 0 → (i : ℕ) × (i < n) × (t i ≡ true)
below_some t zero h = absurd (h refl)
below_some t (suc n) h = go (t n) refl (below_some t n)
  where
    go : (b : Bool) → t n ≡ b → (many_below t n ≢ 0 → (i : ℕ) × (i < n) × (t i ≡ true)) → (i : ℕ) × (i < suc n) × (t i ≡ true)
    go true e ih = (n, le_refl (suc n), e)
    go false e ih = let (i, l, f) = ih (λ z. h (omega (arith, ap one_if e, z))) in (i, omega arith, f)
