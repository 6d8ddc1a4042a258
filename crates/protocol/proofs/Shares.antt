-- How many throws there are, and which share of them a false result can pass.
use mathlib.Core.Path.{◌≡◌, refl, sym, ap, ◌∙◌}
use mathlib.Core.Bool.{Bool, true, false}
use mathlib.Core.List.{List, [], ◌∷◌}
use Prim.Native.Nat.{ℕ, ◌+◌, ◌-◌, ◌*◌, ◌^◌, ◌≤◌, ◌<◌, min}
use native.Mathlib.Nat.{le_trans, le_of_eq, mul_assoc, mul_comm, mul-le-mul, min-le_left, min-le_right}
use native.Mathlib.Decide.{dec_le}
use native.Mathlib.Omega.{arith}
use lib.Count.{ones}
use lib.Pow.{pow-add}
use Rattle.laws.specs.Tests.{equal, ◌and◌, refuted, never, equal_iff, and_iff, and_go, and_stop, and_last_stop, is_equal, not_equal}
use Rattle.laws.specs.Sums.{one_if, sum_same, sum_none, sum_only, sum_times}
use Rattle.laws.specs.Subsets.{many_below, below_none, below_all}
use Rattle.laws.specs.Binomials.{binomial, with_ones}
use Rattle.protocol.specs.declared.Parameters.{Parameters}
use Rattle.protocol.specs.Layout.{lists}
use Rattle.protocol.specs.Throws.{is_throw, throws, all_throws, choices, most_false, one_in}
use Rattle.protocol.proofs.Passing.{thrown_iff}

module _ (p : Parameters) where
  -- ---- tests that agree on all throws count as many

  pub throws_same : (t u : ℕ → ℕ → Bool) → ((mask sides : ℕ) → is_throw p mask sides ≡ true → t mask sides ≡ u mask sides) → throws p t ≡ throws p u
  unfolding throws
  throws_same t u h =
      sum_same (λ mask. many_below (λ sides. is_throw p mask sides and t mask sides) (2 ^ p.ballots)) (λ mask. many_below (λ sides. is_throw p mask sides and u mask sides) (2 ^ p.ballots)) (2 ^ lists p)
      (λ mask l. sum_same (λ sides. one_if (is_throw p mask sides and t mask sides)) (λ sides. one_if (is_throw p mask sides and u mask sides)) (2 ^ p.ballots)
      (λ sides ls. ap one_if (go mask sides (is_throw p mask sides) refl)))
    where
      go : (mask sides : ℕ) (b : Bool) → is_throw p mask sides ≡ b → (b and t mask sides) ≡ (b and u mask sides)
      go mask sides true e = ap (λ (x : Bool). true and x) (h mask sides e)
      go mask sides false e = sym (and_stop false (t mask sides) refl) ∙ and_stop false (u mask sides) refl

  pub throws_none : (t : ℕ → ℕ → Bool) → ((mask sides : ℕ) → is_throw p mask sides ≡ true → t mask sides ≡ false) → throws p t ≡ 0
  unfolding throws
  throws_none t h =
      sum_none (λ mask. many_below (λ sides. is_throw p mask sides and t mask sides) (2 ^ p.ballots)) (2 ^ lists p)
      (λ mask l. below_none (λ sides. is_throw p mask sides and t mask sides) (2 ^ p.ballots)
      (λ sides ls. refuted (is_throw p mask sides and t mask sides) (λ e.
      let (thrown, met) = (and_iff (is_throw p mask sides) (t mask sides)).0 e in
      never met (h mask sides thrown))))

  -- ---- how many there are

  -- of a test of the sides, under one mask: all that meet it, or none
  under : (t : ℕ → Bool) (mask : ℕ) → mask < 2 ^ lists p
      → many_below (λ sides. is_throw p mask sides and t sides) (2 ^ p.ballots) ≡ one_if (equal (ones mask) p.compared) * many_below t (2 ^ p.ballots)
  under t mask l = go (equal (ones mask) p.compared) refl
    where
      go : (b : Bool) → equal (ones mask) p.compared ≡ b → many_below (λ sides. is_throw p mask sides and t sides) (2 ^ p.ballots) ≡ one_if b * many_below t (2 ^ p.ballots)
      go true e =
          sum_same (λ sides. one_if (is_throw p mask sides and t sides)) (λ sides. one_if (t sides)) (2 ^ p.ballots)
          (λ sides ls. ap one_if (sym (and_go (is_throw p mask sides) (t sides) ((thrown_iff p mask sides).1 (((equal_iff (ones mask) p.compared).0 e, l), ls)) refl)))
          ∙ omega arith
      go false e =
          below_none (λ sides. is_throw p mask sides and t sides) (2 ^ p.ballots)
          (λ sides ls. refuted (is_throw p mask sides and t sides) (λ h.
          let ((o, low), some) = (thrown_iff p mask sides).0 ((and_iff (is_throw p mask sides) (t sides)).0 h).0 in
          never (is_equal o) e))
          ∙ omega arith

  pub throws_sides : (t : ℕ → Bool) → throws p (λ mask sides. t sides) ≡ choices p * many_below t (2 ^ p.ballots)
  unfolding throws choices
  throws_sides t =
      sum_same (λ mask. many_below (λ sides. is_throw p mask sides and t sides) (2 ^ p.ballots)) (λ mask. one_if (equal (ones mask) p.compared) * many_below t (2 ^ p.ballots)) (2 ^ lists p) (under t)
      ∙ sum_times (λ mask. one_if (equal (ones mask) p.compared)) (many_below t (2 ^ p.ballots)) (2 ^ lists p)
      ∙ ap (λ (c : ℕ). c * many_below t (2 ^ p.ballots)) (with_ones (lists p) p.compared)

  pub all_throws_lem : all_throws p ≡ choices p * 2 ^ p.ballots
  unfolding all_throws
  all_throws_lem = throws_sides (λ sides. true) ∙ ap (λ (c : ℕ). choices p * c) (below_all (λ sides. true) (2 ^ p.ballots) (λ sides l. refl))

  -- of one mask
  pub throws_mask : (mask₀ : ℕ) → ones mask₀ ≡ p.compared → mask₀ < 2 ^ lists p → throws p (λ mask sides. equal mask mask₀) ≡ 2 ^ p.ballots
  unfolding throws
  throws_mask mask₀ o low =
      sum_only (λ mask. many_below (λ sides. is_throw p mask sides and equal mask mask₀) (2 ^ p.ballots)) (2 ^ lists p) mask₀ low
      (λ mask l ne. below_none (λ sides. is_throw p mask sides and equal mask mask₀) (2 ^ p.ballots)
      (λ sides ls. sym (and_last_stop (is_throw p mask sides) (equal mask mask₀) (not_equal ne))))
      ∙ below_all (λ sides. is_throw p mask₀ sides and equal mask₀ mask₀) (2 ^ p.ballots)
      (λ sides ls. (and_iff (is_throw p mask₀ sides) (equal mask₀ mask₀)).1 ((thrown_iff p mask₀ sides).1 ((o, low), ls), is_equal refl))

  -- ---- the bound as a share of them

  pub share : (k count : ℕ) → k ≤ p.ballots → count ≤ most_false p k → count * one_in p k ≤ all_throws p
  unfolding most_false one_in
  share k count lk few = le_trans (go (dec_le count (2 ^ p.ballots))) (le_of_eq (sym all_throws_lem))
    where
      C : ℕ
      C = choices p

      whole : C * 2 ^ (p.ballots - k) * 2 ^ k ≡ C * 2 ^ p.ballots
      whole =
          let e : p.ballots - k + k ≡ p.ballots = omega arith in
          mul_assoc C (2 ^ (p.ballots - k)) (2 ^ k) ∙ ap (λ (x : ℕ). C * x) (sym (pow-add 2 (p.ballots - k) k) ∙ ap (λ (x : ℕ). 2 ^ x) e)

      go : Dec (count ≤ 2 ^ p.ballots) → count * min C (2 ^ k) ≤ C * 2 ^ p.ballots
      go (yes l) = le_trans (mul-le-mul l (min-le_left C (2 ^ k))) (le_of_eq (mul_comm (2 ^ p.ballots) C))
      go (no l) =
          let m : count ≤ C * 2 ^ (p.ballots - k) = omega (arith, few) in
          le_trans (mul-le-mul m (min-le_right C (2 ^ k))) (le_of_eq whole)

-- ---- what that is in numbers

-- one throw in how many, with 2m lists and k wrong votes
abbrev row : ℕ → ℕ → ℕ
row m k = min (binomial (2 * m) m) (2 ^ k)

pub row_is : (p : Parameters) (k : ℕ) → one_in p k ≡ row p.compared k
unfolding one_in choices
row_is p k = refl

-- with 1, 5, 10, 15 and 22 wrong votes
abbrev row_of : ℕ → List ℕ
row_of m = row m 1 ∷ row m 5 ∷ row m 10 ∷ row m 15 ∷ row m 22 ∷ []

pub record Rows : Type 0 where
  pub lists_2 : row_of 1 ≡ 2 ∷ 2 ∷ 2 ∷ 2 ∷ 2 ∷ []
  pub lists_4 : row_of 2 ≡ 2 ∷ 6 ∷ 6 ∷ 6 ∷ 6 ∷ []
  pub lists_8 : row_of 4 ≡ 2 ∷ 32 ∷ 70 ∷ 70 ∷ 70 ∷ []
  pub lists_12 : row_of 6 ≡ 2 ∷ 32 ∷ 924 ∷ 924 ∷ 924 ∷ []
  pub lists_16 : row_of 8 ≡ 2 ∷ 32 ∷ 1024 ∷ 12870 ∷ 12870 ∷ []
  pub lists_24 : row_of 12 ≡ 2 ∷ 32 ∷ 1024 ∷ 32768 ∷ 2704156 ∷ []

pub rows : Rows
unfolding binomial
rows = record { lists_2 = refl; lists_4 = refl; lists_8 = refl; lists_12 = refl; lists_16 = refl; lists_24 = refl }

pub twelve : binomial (2 * 12) 12 ≡ 2704156
unfolding binomial
twelve = refl
