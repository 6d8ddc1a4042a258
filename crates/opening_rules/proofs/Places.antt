-- What stands before a command that opens.
use mathlib.Core.Path.{◌≡◌}
use mathlib.Core.List.{List}
use Prim.Native.Nat.{ℕ, ◌+◌, ◌*◌, ◌-◌, ◌≤◌, ◌<◌}
use native.Mathlib.Omega.{arith}
use Rattle.protocol.specs.declared.Parameters.{Parameters}
use Rattle.protocol.specs.Layout.{lists, at_ballot, at_entry, at_first_dice, at_link, at_second_dice, at_ballot_half, at_list_half, at_vote, at_full_opening}
use Rattle.protocol.specs.Record.{list_half_place, full_place}
use Rattle.protocol.proofs.Lengths.{ballot_inside, entry_inside, link_inside}

module _ (p : Parameters) where
  pub first_dice_before : (j : ℕ) → at_first_dice p + 35 ≤ at_ballot_half p j
  unfolding at_ballot_half at_second_dice
  first_dice_before j = omega arith

  -- before a ballot's half: the ballots, the lists and the links
  pub ballot_before : (i j : ℕ) → i < p.ballots → at_ballot p i + 197 ≤ at_ballot_half p j
  ballot_before i j h = omega (arith, ballot_inside p i h, first_dice_before j)

  pub entry_before : (l i j : ℕ) → l < lists p → i < p.ballots → at_entry p l i + 196 ≤ at_ballot_half p j
  entry_before l i j hl hi = omega (arith, entry_inside p l i hl hi, first_dice_before j)

  pub link_before : (c i j : ℕ) → c < p.compared → i < p.ballots → at_link p c i + 10 ≤ at_ballot_half p j
  unfolding at_ballot_half
  link_before c i j hc hi = omega (arith, link_inside p c i hc hi)

  -- before a list's half: the ballot's
  pub half_before : (r : List ℕ) (l j : ℕ) → at_ballot_half p j + 112 ≤ list_half_place p r l j
  unfolding list_half_place at_list_half
  half_before r l j = omega arith

  -- before a full opening: the ballots' halves and the votes; and the list's full openings from its first on
  pub votes_before : (r : List ℕ) (l i : ℕ) → (at_ballot_half p p.ballots ≤ at_vote p 0) × (at_vote p 0 + 7 * p.ballots ≤ full_place p r l i)
  unfolding full_place at_full_opening at_vote
  votes_before r l i = omega arith

  pub full_first : (r : List ℕ) (l i : ℕ) → 220 * i ≤ full_place p r l i
  unfolding full_place at_full_opening
  full_first r l i = omega arith

  pub full_steps : (r : List ℕ) (l i k : ℕ) → full_place p r l i - 220 * i + 220 * k ≡ full_place p r l k
  unfolding full_place at_full_opening
  full_steps r l i k = omega arith

  pub vote_steps : (i : ℕ) → at_vote p 0 + 7 * i ≡ at_vote p i
  unfolding at_vote
  vote_steps i = omega arith
