-- The tests of each command, as plain statements.
use mathlib.Core.Path.{◌≡◌, refl, subst}
use mathlib.Core.Logic.Iff
use mathlib.Core.Logic.{◌↔◌, ◌≢◌}
use mathlib.Core.Bool.{Bool, true, false}
use mathlib.Core.List.{List}
use Prim.Native.Nat.{ℕ, suc, ◌+◌, ◌-◌, ◌*◌, ◌%◌, ◌^◌, ◌≤◌, ◌<◌}
use native.Mathlib.Omega.{arith}
use lib.Count.{ones}
use lib.Dec.{ltb}
use lib.ListN.{length, take}
use Rattle.laws.specs.Tests.{unequal_iff}
use Rattle.laws.specs.Faults.{rule, kept, rule_kept, rules}
use Rattle.laws.specs.Bytes.{number}
use Rattle.laws.specs.Permuting.{permutes_iff}
use Rattle.laws.specs.Sums.{times}
use Rattle.protocol.specs.declared.Parameters.{Parameters}
use Rattle.protocol.specs.declared.Due.{Due}
use Rattle.protocol.specs.declared.Due.TheVariants.{First, Ballot, Entry, FirstDice, Link, SecondDice, BallotHalf, ListHalf, Vote, FullOpening, End}
use Rattle.protocol.specs.declared.Place.TheVariants.{InBallot, InEntry}
use Rattle.protocol.specs.Terms.{item, most_ballots, modulus_in_limits, ballots_in_limits, lists_in_limits, in_limits, opened, commitment}
use Rattle.protocol.specs.Layout.{code, width, at_entry, at_first_dice, at_second_dice, at_ballot_half, at_vote}
use Rattle.protocol.specs.Record.{parameters_of, id_of, ballot_commitment_of, entry_commitment_of, first_dice_of, mask_of, link_place, position_of, shift_of, second_dice_of, side_of, ballot_opening_of, list_half_place, list_opening_of, vote_of, full_place, full_opening_of}
use Rattle.protocol.specs.Drawing.{challenge, drawn_mask, drawn_side}
use Rattle.protocol.proofs.Agreeing.{sum_of_three_lem, sum_of_six_lem, agrees_iff}
use Rattle.protocol.specs.Rules.{fair_die, fair_dice, right_shape, numbers_below, gives, apart, original, first_rules, ballot_rules, entry_rules, first_dice_rules, link_rules, second_dice_rules, ballot_half_rules, list_half_rules, vote_rules, full_rules, rules_with, rules as rules_of, place_of, fault, fault_with}

pub wide : (p : Parameters) (d : Due) → 0 < width p d
wide p First = omega arith
wide p (Ballot j) = omega arith
wide p (Entry l i) = omega arith
wide p FirstDice = omega arith
wide p (Link l j) = omega arith
wide p SecondDice = omega arith
wide p (BallotHalf j) = omega arith
wide p (ListHalf l j) = omega arith
wide p (Vote i) = omega arith
wide p (FullOpening l i) = omega arith
wide p End = omega arith

-- the last rule of a command
last_rule : (k : ℕ) (t : Bool) → ltb 0 k ≡ true → (rule k t kept ≡ 0) ↔ (t ≡ true)
last_rule k t h = (λ e. ((rule_kept k t 0 h).0 e).0, λ e. (rule_kept k t 0 h).1 (e, refl))

-- what holds of the index before, if there is one
before : (P : ℕ → Type 0) (j : ℕ) → (j ≢ 0 → P (j - 1)) ↔ ((i : ℕ) → suc i ≡ j → P i)
before P j = (λ h i e. subst P (let z : j - 1 ≡ i = omega arith in z) (h (omega arith)), λ h ne. h (j - 1) (omega arith))

ruleset tests = (last_rule, unequal_iff, rules)

module _ (drawn : Bool) (p : Parameters) (r : List ℕ) where
  -- the command stands whole where it is due, and keeps its rules
  pub fault_with_iff : (copies : Bool) (d : Due) → (fault_with p r copies drawn d ≡ 0)
      ↔ ((item r (place_of p r d) ≡ code p d) × ((place_of p r d + width p d ≤ length r) × (rules_with p r copies drawn d ≡ 0)))
  unfolding fault_with
  fault_with_iff copies d = (
    λ e. let h = simp rules at e in (h.1.0, (h.1.1.0, h.1.1.1)),
    λ h. let w : 0 < width p d = wide p d in simp rules (omega (arith, h.1.0), (h.0, (h.1.0, h.1.1))),
  )

  pub fault_iff : (d : Due) → (fault p r drawn d ≡ 0)
      ↔ ((item r (place_of p r d) ≡ code p d) × ((place_of p r d + width p d ≤ length r) × (rules_of p r drawn d ≡ 0)))
  fault_iff d = fault_with_iff false d

  pub first_tests : (first_rules r ≡ 0)
      ↔ (((2 ≤ (parameters_of r).modulus) × ((parameters_of r).modulus ≤ 4294967295))
      × (((1 ≤ (parameters_of r).ballots) × ((parameters_of r).ballots ≤ most_ballots))
      × ((1 ≤ (parameters_of r).compared) × ((parameters_of r).compared ≤ 12))))
  unfolding first_rules in_limits modulus_in_limits ballots_in_limits lists_in_limits parameters_of
  first_tests = simp tests Iff.rfl

  pub ballot_tests : (copies : Bool) (j : ℕ) → (ballot_rules p r copies j ≡ 0)
      ↔ (((i : ℕ) → suc i ≡ j → id_of p r i < id_of p r j)
      × (copies ≡ true → (i : ℕ) → i < j → (s : ℕ) → s < 6 → (t : ℕ) → t < 6 → ballot_commitment_of p r i s ≢ ballot_commitment_of p r j t))
  unfolding ballot_rules original apart
  ballot_tests copies j = simp (tests, before (λ i. id_of p r i < id_of p r j) j) Iff.rfl

  pub entry_tests : (l i : ℕ) → (entry_rules p r l i ≡ 0) ↔ ((number r (at_entry p l i + 1) 1 ≡ l) × (number r (at_entry p l i + 2) 2 ≡ i))
  unfolding entry_rules
  entry_tests l i = simp tests Iff.rfl

  pub first_dice_tests : (first_dice_rules p r drawn ≡ 0)
      ↔ (((i : ℕ) → i < 30 → (49 ≤ item (first_dice_of p r) i) × (item (first_dice_of p r) i ≤ 54))
      × (((ones (mask_of p r) ≡ p.compared) × (mask_of p r < 2 ^ (2 * p.compared)))
      × (drawn ≡ true → mask_of p r ≡ drawn_mask p.compared (challenge (first_dice_of p r) (take (at_first_dice p) r)))))
  unfolding first_dice_rules fair_dice fair_die right_shape
  first_dice_tests = simp tests Iff.rfl

  pub link_tests : (l j : ℕ) → (link_rules p r l j ≡ 0)
      ↔ ((number r (link_place p r l j + 1) 1 ≡ l)
      × ((number r (link_place p r l j + 2) 2 ≡ j)
      × ((position_of p r l j < p.ballots)
      × (((i : ℕ) → i < j → position_of p r l i ≢ position_of p r l j) × (shift_of p r l j < p.modulus)))))
  unfolding link_rules
  link_tests l j = simp tests Iff.rfl

  pub second_dice_tests : (second_dice_rules p r ≡ 0) ↔ ((i : ℕ) → i < 30 → (49 ≤ item (second_dice_of p r) i) × (item (second_dice_of p r) i ≤ 54))
  unfolding second_dice_rules fair_dice fair_die
  second_dice_tests = simp tests Iff.rfl

  pub ballot_half_tests : (j : ℕ) → (ballot_half_rules p r drawn j ≡ 0)
      ↔ ((number r (at_ballot_half p j + 1) 2 ≡ j)
      × (((c : ℕ) → c < 3 → opened (ballot_opening_of p r j c) < p.modulus)
      × ((side_of p r j ≤ 1)
      × ((drawn ≡ true → side_of p r j ≡ drawn_side (challenge (second_dice_of p r) (take (at_second_dice p) r)) j)
      × ((c : ℕ) → c < 3 → commitment p (InBallot (id_of p r j) (2 * c + side_of p r j)) (ballot_opening_of p r j c) ≡ ballot_commitment_of p r j (2 * c + side_of p r j))))))
  unfolding ballot_half_rules numbers_below gives
  ballot_half_tests j = simp tests Iff.rfl

  pub vote_tests : (i : ℕ) → (vote_rules p r i ≡ 0)
      ↔ ((number r (at_vote p i + 1) 2 ≡ i) × ((vote_of p r i < p.modulus) × ((h : ℕ) → suc h ≡ i → vote_of p r h ≤ vote_of p r i)))
  unfolding vote_rules
  vote_tests i = simp (tests, before (λ h. vote_of p r h ≤ vote_of p r i) i) Iff.rfl

  pub full_tests : (l i : ℕ) → (full_rules p r l i ≡ 0)
      ↔ ((number r (full_place p r l i + 1) 1 ≡ l)
      × ((number r (full_place p r l i + 2) 2 ≡ i)
      × (((q : ℕ) → q < 6 → opened (full_opening_of p r l i q) < p.modulus)
      × (((q : ℕ) → q < 6 → commitment p (InEntry l i q) (full_opening_of p r l i q) ≡ entry_commitment_of p r l i q)
      × (i + 1 ≡ p.ballots → (x : ℕ) → times x (λ i. (opened (full_opening_of p r l i 0) + opened (full_opening_of p r l i 1) + opened (full_opening_of p r l i 2) + opened (full_opening_of p r l i 3) + opened (full_opening_of p r l i 4) + opened (full_opening_of p r l i 5)) % p.modulus) p.ballots ≡ times x (vote_of p r) p.ballots)))))
  unfolding full_rules numbers_below gives
  full_tests l i = simp (tests, permutes_iff, sum_of_six_lem) Iff.rfl

  pub list_half_tests : (l j : ℕ) → side_of p r j ≤ 1 → shift_of p r l j < p.modulus → (list_half_rules p r l j ≡ 0)
      ↔ ((number r (list_half_place p r l j + 1) 1 ≡ l)
      × ((number r (list_half_place p r l j + 2) 2 ≡ position_of p r l j)
      × (((c : ℕ) → c < 3 → opened (list_opening_of p r l j c) < p.modulus)
      × (((c : ℕ) → c < 3
      → commitment p (InEntry l (position_of p r l j) (2 * c + side_of p r j)) (list_opening_of p r l j c) ≡ entry_commitment_of p r l (position_of p r l j) (2 * c + side_of p r j))
      × ((side_of p r j ≡ 0
      → (opened (ballot_opening_of p r j 0) + opened (ballot_opening_of p r j 1) + opened (ballot_opening_of p r j 2)) % p.modulus
      ≡ (opened (list_opening_of p r l j 0) + opened (list_opening_of p r l j 1) + opened (list_opening_of p r l j 2) + shift_of p r l j) % p.modulus)
      × (side_of p r j ≡ 1
      → (opened (ballot_opening_of p r j 0) + opened (ballot_opening_of p r j 1) + opened (ballot_opening_of p r j 2) + shift_of p r l j) % p.modulus
      ≡ (opened (list_opening_of p r l j 0) + opened (list_opening_of p r l j 1) + opened (list_opening_of p r l j 2)) % p.modulus))))))
  unfolding list_half_rules numbers_below gives
  list_half_tests l j side shift = simp (tests, sum_of_three_lem, agrees_iff) Iff.rfl
