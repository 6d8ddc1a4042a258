-- A record of the due length with a mask of the right shape: every command lies inside of it.
use mathlib.Core.Path.{◌≡◌, sym, ◌∙◌}
use mathlib.Core.List.{List}
use Prim.Native.Nat.{ℕ, ◌+◌, ◌^◌, ◌≤◌, ◌<◌}
use native.Mathlib.Nat.{le_trans, le_of_eq}
use lib.Count.{ones}
use lib.ListN.{length}
use Rattle.laws.specs.Masks.{bit, set_before, clear_before, set_rank, clear_rank, bits_iff}
use Rattle.protocol.specs.declared.Parameters.{Parameters}
use Rattle.protocol.specs.Layout.{lists, first_width, at_ballot, at_entry, at_first_dice, at_second_dice, at_ballot_half, at_vote, at_end, record_length}
use Rattle.protocol.specs.Record.{parameters_of, mask_of, link_place, list_half_place, full_place, board_of, comparison_of, disclosure_of}
use Rattle.protocol.specs.Stands.{Laid, Valid, Stands}
use Rattle.protocol.proofs.Lengths.{record_length_lem, part_one_inside, part_two_inside, part_three_inside, first_inside, ballot_inside, entry_inside, first_dice_inside, link_inside, second_dice_inside, ballot_half_inside, list_half_inside, vote_inside, full_inside}

pub record Shaped (p : Parameters) (r : List ℕ) : Type 0 where
  pub long : length r ≡ record_length p
  pub mask_ones : ones (mask_of p r) ≡ p.compared
  pub mask_below : mask_of p r < 2 ^ lists p

pub laid_shaped : {r : List ℕ} → Laid (parameters_of r) r → Valid (board_of r) (comparison_of r) (disclosure_of r) → Shaped (parameters_of r) r
laid_shaped {r} due v = record {
  long = due.long ∙ sym (record_length_lem (parameters_of r));
  mask_ones = v.mask_ones;
  mask_below = (bits_iff (lists (parameters_of r)) (mask_of (parameters_of r) r)).1 v.mask_bits;
}

pub stands_shaped : {r : List ℕ} → Stands r → Shaped (parameters_of r) r
stands_shaped s = laid_shaped s.laid s.valid

module _ {p : Parameters} {r : List ℕ} (h : Shaped p r) where
  -- a list that is compared has fewer than m such lists before it, and one that is opened too
  pub compared_rank : (l : ℕ) → l < lists p → bit (mask_of p r) l ≡ 1 → set_before (mask_of p r) l < p.compared
  compared_rank l ll b = set_rank p.compared (mask_of p r) l h.mask_ones h.mask_below ll b

  pub opened_rank : (l : ℕ) → l < lists p → bit (mask_of p r) l ≡ 0 → clear_before (mask_of p r) l < p.compared
  opened_rank l ll b = clear_rank p.compared (mask_of p r) l h.mask_ones h.mask_below ll b

  -- what ends inside of a part
  in_part : {x e : ℕ} → x ≤ e → e ≤ record_length p → x ≤ length r
  in_part a b = le_trans a (le_trans b (le_of_eq (sym h.long)))

  pub first_within : first_width p ≤ length r
  first_within = in_part (first_inside p) (part_one_inside p)

  pub ballot_within : (j : ℕ) → j < p.ballots → at_ballot p j + 197 ≤ length r
  ballot_within j lj = in_part (ballot_inside p j lj) (part_one_inside p)

  pub entry_within : (l i : ℕ) → l < lists p → i < p.ballots → at_entry p l i + 196 ≤ length r
  entry_within l i ll li = in_part (entry_inside p l i ll li) (part_one_inside p)

  pub first_dice_within : at_first_dice p + 35 ≤ length r
  first_dice_within = in_part (first_dice_inside p) (part_two_inside p)

  pub link_within : (l j : ℕ) → l < lists p → bit (mask_of p r) l ≡ 1 → j < p.ballots → link_place p r l j + 10 ≤ length r
  unfolding link_place
  link_within l j ll b lj = in_part (link_inside p (set_before (mask_of p r) l) j (compared_rank l ll b) lj) (part_two_inside p)

  pub second_dice_within : at_second_dice p + 31 ≤ length r
  second_dice_within = in_part (second_dice_inside p) (part_three_inside p)

  pub ballot_half_within : (j : ℕ) → j < p.ballots → at_ballot_half p j + 112 ≤ length r
  ballot_half_within j lj = in_part (ballot_half_inside p j lj) (part_three_inside p)

  pub list_half_within : (l j : ℕ) → l < lists p → bit (mask_of p r) l ≡ 1 → j < p.ballots → list_half_place p r l j + 112 ≤ length r
  unfolding list_half_place
  list_half_within l j ll b lj = in_part (list_half_inside p j (set_before (mask_of p r) l) lj (compared_rank l ll b)) (part_three_inside p)

  pub vote_within : (i : ℕ) → i < p.ballots → at_vote p i + 7 ≤ length r
  vote_within i li = in_part (vote_inside p i li) (part_three_inside p)

  pub full_within : (l i : ℕ) → l < lists p → bit (mask_of p r) l ≡ 0 → i < p.ballots → full_place p r l i + 220 ≤ length r
  unfolding full_place
  full_within l i ll b li = in_part (full_inside p (clear_before (mask_of p r) l) i (opened_rank l ll b) li) (part_three_inside p)

  pub end_within : at_end p + 1 ≤ length r
  end_within = le_of_eq (sym h.long)
