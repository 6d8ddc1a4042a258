-- Document 01, "What is refused, by whose doing": which test the due command breaks, in plain statements, and which tests come before.
use Rattle.std.specs.Prelude.{◌≡◌, ◌≢◌, ◌⊎◌, Bool, true, List, ℕ, suc, ◌+◌, ◌*◌, ◌^◌, ◌≤◌, ◌<◌, length, take}
use Rattle.std.specs.Int.Count.{ones}
use Rattle.laws.specs.Bytes.{number}
use Rattle.laws.specs.Modular.{plus, minus}
use Rattle.laws.specs.Sums.{times}
use Rattle.protocol.specs.declared.Parameters.{Parameters}
use Rattle.protocol.specs.declared.Due.{Due}
use Rattle.protocol.specs.declared.Due.TheVariants.{First, Ballot, Entry, FirstDice, Link, SecondDice, BallotHalf, ListHalf, Vote, FullOpening}
use Rattle.protocol.specs.declared.Place.TheVariants.{InBallot, InEntry}
use Rattle.protocol.specs.Terms.{item, most_ballots, opened, commitment, sum_of_three, sum_of_six}
use Rattle.protocol.specs.Layout.{code, width, at_entry, at_first_dice, at_second_dice, at_ballot_half, at_vote}
use Rattle.protocol.specs.Record.{parameters_of, id_of, ballot_commitment_of, entry_commitment_of, first_dice_of, mask_of, link_place, position_of, shift_of, second_dice_of, side_of, ballot_opening_of, list_half_place, list_opening_of, vote_of, full_place, full_opening_of}
use Rattle.protocol.specs.Drawing.{challenge, drawn_mask, drawn_side}
use Rattle.protocol.specs.Rules.{place_of}

-- "In it: no byte left 1, byte not due 2, operands cut short 1, then rising numbers.": the tests of a command, each with the number that
-- refuses it, and their order
pub data Test : Type 0 where
  none_left : Test
  not_due : Test
  cut_short : Test
  numbered : ℕ → Test

abbrev pub test_number : Test → ℕ
test_number none_left = 1
test_number not_due = 2
test_number cut_short = 1
test_number (numbered k) = k

abbrev pub test_rank : Test → ℕ
test_rank none_left = 0
test_rank not_due = 1
test_rank cut_short = 2
test_rank (numbered k) = 3 + k

-- 3 "M, n or m outside its limits"
abbrev pub ModulusOutside : ℕ → Type 0
ModulusOutside M = (M < 2) ⊎ (4294967295 < M)

abbrev pub BallotsOutside : ℕ → Type 0
BallotsOutside n = (n < 1) ⊎ (most_ballots < n)

abbrev pub ListsOutside : ℕ → Type 0
ListsOutside m = (m < 1) ⊎ (12 < m)

-- outside '1' to '6'
abbrev pub Unfair : ℕ → Type 0
Unfair c = (c < 49) ⊎ (54 < c)

-- `drawn` says whether rules 8 and 12 are asked for, `copies` whether 21 is
pub data Broken (copies drawn : Bool) (p : Parameters) (r : List ℕ) : Due → Test → Type 0 where
  -- 1 "the record stops inside a command or before 0B": no byte of the command is left, or not all of its bytes
  is_none_left : (d : Due) → length r ≤ place_of p r d → Broken copies drawn p r d none_left
  is_cut_short : (d : Due) → length r < place_of p r d + width p d → Broken copies drawn p r d cut_short
  -- 2 "a command byte that is not due"
  is_not_due : (d : Due) → item r (place_of p r d) ≢ code p d → Broken copies drawn p r d not_due
  -- 3 "M, n or m outside its limits"
  modulus : ModulusOutside (parameters_of r).modulus → Broken copies drawn p r First (numbered 3)
  ballots : BallotsOutside (parameters_of r).ballots → Broken copies drawn p r First (numbered 3)
  lists : ListsOutside (parameters_of r).compared → Broken copies drawn p r First (numbered 3)
  -- 4 "a list, ballot, position or index operand other than the due one (in a link, list and ballot only)"
  entry_list : (l i : ℕ) → number r (at_entry p l i + 1) 1 ≢ l → Broken copies drawn p r (Entry l i) (numbered 4)
  entry_position : (l i : ℕ) → number r (at_entry p l i + 2) 2 ≢ i → Broken copies drawn p r (Entry l i) (numbered 4)
  link_list : (l j : ℕ) → number r (link_place p r l j + 1) 1 ≢ l → Broken copies drawn p r (Link l j) (numbered 4)
  link_ballot : (l j : ℕ) → number r (link_place p r l j + 2) 2 ≢ j → Broken copies drawn p r (Link l j) (numbered 4)
  half_ballot : (j : ℕ) → number r (at_ballot_half p j + 1) 2 ≢ j → Broken copies drawn p r (BallotHalf j) (numbered 4)
  half_list : (l j : ℕ) → number r (list_half_place p r l j + 1) 1 ≢ l → Broken copies drawn p r (ListHalf l j) (numbered 4)
  half_position : (l j : ℕ) → number r (list_half_place p r l j + 2) 2 ≢ position_of p r l j
      → Broken copies drawn p r (ListHalf l j) (numbered 4)
  vote_index : (i : ℕ) → number r (at_vote p i + 1) 2 ≢ i → Broken copies drawn p r (Vote i) (numbered 4)
  full_list : (l i : ℕ) → number r (full_place p r l i + 1) 1 ≢ l → Broken copies drawn p r (FullOpening l i) (numbered 4)
  full_position : (l i : ℕ) → number r (full_place p r l i + 2) 2 ≢ i → Broken copies drawn p r (FullOpening l i) (numbered 4)
  -- 5 "an id not above the one before"
  id : (j : ℕ) → id_of p r (suc j) ≤ id_of p r j → Broken copies drawn p r (Ballot (suc j)) (numbered 5)
  -- 6 "a dice byte outside '1' to '6'"
  first_die : (i : ℕ) → i < 30 → Unfair (item (first_dice_of p r) i) → Broken copies drawn p r FirstDice (numbered 6)
  second_die : (i : ℕ) → i < 30 → Unfair (item (second_dice_of p r) i) → Broken copies drawn p r SecondDice (numbered 6)
  -- 7 "mask of the wrong shape"
  mask_ones : ones (mask_of p r) ≢ p.compared → Broken copies drawn p r FirstDice (numbered 7)
  mask_bits : 2 ^ (2 * p.compared) ≤ mask_of p r → Broken copies drawn p r FirstDice (numbered 7)
  -- 8 "mask not the drawn one", only as drawn
  mask_drawn : drawn ≡ true → mask_of p r ≢ drawn_mask p.compared (challenge (first_dice_of p r) (take (at_first_dice p) r))
      → Broken copies drawn p r FirstDice (numbered 8)
  -- 9 "link position n or above, or taken"
  position : (l j : ℕ) → p.ballots ≤ position_of p r l j → Broken copies drawn p r (Link l j) (numbered 9)
  taken : (l j i : ℕ) → i < j → position_of p r l i ≡ position_of p r l j → Broken copies drawn p r (Link l j) (numbered 9)
  -- 10 "an opened number, t or vote not below M"
  shift : (l j : ℕ) → p.modulus ≤ shift_of p r l j → Broken copies drawn p r (Link l j) (numbered 10)
  ballot_number : (j c : ℕ) → c < 3 → p.modulus ≤ opened (ballot_opening_of p r j c) → Broken copies drawn p r (BallotHalf j) (numbered 10)
  list_number : (l j c : ℕ) → c < 3 → p.modulus ≤ opened (list_opening_of p r l j c) → Broken copies drawn p r (ListHalf l j) (numbered 10)
  vote : (i : ℕ) → p.modulus ≤ vote_of p r i → Broken copies drawn p r (Vote i) (numbered 10)
  full_number : (l i q : ℕ) → q < 6 → p.modulus ≤ opened (full_opening_of p r l i q)
      → Broken copies drawn p r (FullOpening l i) (numbered 10)
  -- 11 "side byte above 1"
  side : (j : ℕ) → 1 < side_of p r j → Broken copies drawn p r (BallotHalf j) (numbered 11)
  -- 12 "side not the drawn one", only as drawn
  side_drawn : (j : ℕ) → drawn ≡ true → side_of p r j ≢ drawn_side (challenge (second_dice_of p r) (take (at_second_dice p) r)) j
      → Broken copies drawn p r (BallotHalf j) (numbered 12)
  -- 13 "opening does not give its commitment"
  ballot_opening : (j c : ℕ) → c < 3 → commitment p (InBallot (id_of p r j) (2 * c + side_of p r j)) (ballot_opening_of p r j c)
      ≢ ballot_commitment_of p r j (2 * c + side_of p r j)
      → Broken copies drawn p r (BallotHalf j) (numbered 13)
  list_opening : (l j c : ℕ) → c < 3
      → commitment p (InEntry l (position_of p r l j) (2 * c + side_of p r j)) (list_opening_of p r l j c)
      ≢ entry_commitment_of p r l (position_of p r l j) (2 * c + side_of p r j)
      → Broken copies drawn p r (ListHalf l j) (numbered 13)
  full_opening : (l i q : ℕ) → q < 6 → commitment p (InEntry l i q) (full_opening_of p r l i q) ≢ entry_commitment_of p r l i q
      → Broken copies drawn p r (FullOpening l i) (numbered 13)
  -- 14 "the two halves disagree"
  first_halves : (l j : ℕ) → side_of p r j ≡ 0
      → sum_of_three p.modulus (ballot_opening_of p r j)
      ≢ plus p.modulus (sum_of_three p.modulus (list_opening_of p r l j)) (shift_of p r l j)
      → Broken copies drawn p r (ListHalf l j) (numbered 14)
  -- a side that is not 0 is 1, by rule 11
  second_halves : (l j : ℕ) → side_of p r j ≢ 0
      → sum_of_three p.modulus (ballot_opening_of p r j)
      ≢ minus p.modulus (sum_of_three p.modulus (list_opening_of p r l j)) (shift_of p r l j)
      → Broken copies drawn p r (ListHalf l j) (numbered 14)
  -- 15 "announced vote below its forerunner"
  falls : (i : ℕ) → vote_of p r (suc i) < vote_of p r i → Broken copies drawn p r (Vote (suc i)) (numbered 15)
  -- 16 "opened list is no permutation of the announced votes (found at its last 0A)"
  values : (l i : ℕ) → i + 1 ≡ p.ballots
      → (((x : ℕ) → times x (λ k. sum_of_six p.modulus (full_opening_of p r l k)) p.ballots ≡ times x (vote_of p r) p.ballots) → ⊥)
      → Broken copies drawn p r (FullOpening l i) (numbered 16)
  -- 21 "a commitment equal to one of an earlier ballot, at whichever places" (document 02, item 5), only where it is asked for
  copied : (i j s t : ℕ) → copies ≡ true → i < j → s < 6 → t < 6 → ballot_commitment_of p r i s ≡ ballot_commitment_of p r j t
      → Broken copies drawn p r (Ballot j) (numbered 21)
