-- The claim of `specs/Throws`: over one board two accepted answers show a commitment opened in two ways, or few throws pass with a result that
-- differs from what the ballots commit.
use mathlib.Core.Path.{◌≡◌, refl, ap, ◌∙◌}
use mathlib.Core.Logic.{◌↔◌, ◌⊎◌, inl, ⊎_map}
use mathlib.Core.Bool.{true, false}
use mathlib.Core.List.{List, []}
use Prim.Native.Nat.{ℕ, ◌*◌, ◌^◌, ◌≤◌, ◌<◌}
use native.Mathlib.Nat.{le_refl, le_trans, mul-le-mul}
use native.Mathlib.Decide.{dec_le}
use native.Mathlib.Omega.{arith}
use lib.Pow.{pow_mono}
use Rattle.laws.specs.Tests.{below, and_iff, refuted}
use Rattle.laws.specs.Faults.{rule, located, ◌then◌, number_of}
use Rattle.laws.specs.Search.{◌>>=◌}
use Rattle.laws.specs.Sums.{times}
use Rattle.laws.specs.Binomials.{binomial, two_choices}
use Rattle.laws.specs.Distances.{distance}
use Rattle.laws.proofs.Distances.{distance_zero}
use Rattle.protocol.specs.Record.{parameters_of, vote_of}
use Rattle.protocol.specs.Answers.{answer_of}
use Rattle.protocol.specs.Rules.{fault_with}
use Rattle.protocol.specs.Judging.{found_with, first_fault, judged}
use Rattle.protocol.specs.Throws.{Strategy, is_throw, throws, all_throws, choices, one_in, accepts, accepts_false, is_done, Passed, Family, Fits, AnswersTwice, FewFalse}
use Rattle.protocol.proofs.Places.{HashCollision, twice_collides}
use Rattle.protocol.proofs.Passing.{valid, unambiguous, few_false}
use Rattle.protocol.proofs.Fittable.{some_fit}
use Rattle.protocol.proofs.Shares.{throws_none, share, twelve}

pub few_or_twice : (board : List ℕ) (answer : Strategy) → Family board answer → FewFalse board answer ⊎ AnswersTwice board answer
few_or_twice board answer f = do
  u ← unambiguous board answer f
  t ← some_fit board answer f
  inl record { committed = t.0; fits = t.1; few = few_false board answer f u }

-- two openings of one commitment show two inputs of SHA3-256 with one digest
pub few_or_collides : (board : List ℕ) (answer : Strategy) → Family board answer → FewFalse board answer ⊎ HashCollision
few_or_collides board answer f = ⊎_map (λ few. few) (λ t. twice_collides t.opened) (few_or_twice board answer f)

-- ---- the claim as shares

module _ (board : List ℕ) (answer : Strategy) (few : FewFalse board answer) (votes : ℕ → ℕ) (fits : Fits board answer votes)
    (k : ℕ) (lk : k ≤ (parameters_of board).ballots) where
  -- the throws that pass with k wrong votes or more
  abbrev false_throws : ℕ
  false_throws = throws (parameters_of board) (accepts_false (parameters_of board) answer votes k)

  pub false_share : false_throws * one_in (parameters_of board) k ≤ all_throws (parameters_of board)
  false_share = share (parameters_of board) k false_throws lk (few.few votes fits k lk)

  -- a false result passes at most half of all throws
  pub at_most_half : Family board answer → 1 ≤ k → false_throws * 2 ≤ all_throws (parameters_of board)
  unfolding one_in choices accepts_false
  at_most_half f l1 = go (dec_le 1 (parameters_of board).compared)
    where
      -- without lists nothing is accepted
      none : (parameters_of board).compared < 1 → (mask sides : ℕ) → is_throw (parameters_of board) mask sides ≡ true
          → accepts_false (parameters_of board) answer votes k mask sides ≡ false
      none l mask sides t =
          refuted (accepts_false (parameters_of board) answer votes k mask sides) (λ e.
          let h : Passed board answer mask sides = record { thrown = t; accepted = ((and_iff _ _).0 e).0 } in
          omega (arith, (valid board answer f board refl mask sides h).compared_low))

      go : Dec (1 ≤ (parameters_of board).compared) → false_throws * 2 ≤ all_throws (parameters_of board)
      go (yes lm) =
          let two : 2 ≤ 2 ^ k = pow_mono {i = 1} {j = k} l1 in
          le_trans (mul-le-mul (le_refl false_throws) (omega (arith, two_choices (parameters_of board).compared lm))) false_share
      go (no lm) =
          let z : false_throws ≡ 0 = throws_none (parameters_of board) (accepts_false (parameters_of board) answer votes k) (none (omega arith)) in
          omega (arith, z)

  -- with 24 lists, one with 22 or more wrong votes passes at most one throw in 2,704,156
  pub one_in_millions : (parameters_of board).compared ≡ 12 → 22 ≤ k → false_throws * 2704156 ≤ all_throws (parameters_of board)
  unfolding one_in choices
  one_in_millions em lk22 =
      let many : 4194304 ≤ 2 ^ k = pow_mono {i = 22} {j = k} lk22 in
      let c : binomial (2 * (parameters_of board).compared) (parameters_of board).compared ≡ 2704156 = ap (λ (m : ℕ). binomial (2 * m) m) em ∙ twelve in
      le_trans (mul-le-mul (le_refl false_throws) (omega (arith, c))) false_share

-- ---- when a result is true

-- at no distance each vote is announced as often, as demand 3 says it
pub no_distance_iff : (board : List ℕ) (answer : Strategy) → Family board answer → (mask sides : ℕ) → Passed board answer mask sides
    → (votes : ℕ → ℕ) → ((j : ℕ) → j < (parameters_of board).ballots → votes j < (parameters_of board).modulus)
    → (distance (parameters_of board).modulus (vote_of (parameters_of board) (answer mask sides)) votes (parameters_of board).ballots ≡ 0)
    ↔ ((x : ℕ) → times x (vote_of (parameters_of board) (answer mask sides)) (parameters_of board).ballots ≡ times x votes (parameters_of board).ballots)
no_distance_iff board answer f mask sides h votes low =
    distance_zero (parameters_of board).modulus (vote_of (parameters_of board) (answer mask sides)) votes (parameters_of board).ballots
    (valid board answer f board refl mask sides h).votes_below low

-- no answer: an empty record is refused
pub no_answer : (mask sides : ℕ) → accepts (λ mask sides. []) mask sides ≡ false
unfolding accepts is_done judged answer_of number_of first_fault ◌then◌ found_with located fault_with rule below
no_answer mask sides = refl
