-- How long a record and its parts are, and that every command lies inside of its part.
use mathlib.Core.Path.{◌≡◌}
use Prim.Native.Nat.{ℕ, suc, ◌+◌, ◌*◌, ◌≤◌, ◌<◌}
use native.Mathlib.Nat.{mul-le-mul_right}
use native.Mathlib.Omega.{arith}
use Rattle.protocol.specs.declared.Form.{Form}
use Rattle.protocol.specs.declared.Form.TheVariants.{Unnumbered, Numbered}
use Rattle.protocol.specs.declared.Parameters.{Parameters}
use Rattle.protocol.specs.Layout.{number_width, lists, first_width, at_ballot, at_entry, at_first_dice, at_link, at_second_dice, at_ballot_half, at_list_half, at_vote, at_full_opening, at_end, record_length, part_three_length}

-- ---- lengths

-- "4 bytes longer", or not at all
pub number_width_lem : (form : Form) → number_width form ≤ 4
unfolding number_width
number_width_lem Unnumbered = omega arith
number_width_lem (Numbered election) = omega arith

-- "The whole is 75 + 316n + 734mn bytes.", with 0C "4 bytes longer"
pub record_length_lem : (p : Parameters) → record_length p ≡ 75 + number_width p.form + 316 * p.ballots + 734 * (p.compared * p.ballots)
unfolding at_end at_vote at_ballot_half at_second_dice at_first_dice
record_length_lem p = omega arith

pub part_three_length_lem : (p : Parameters) → at_second_dice p + part_three_length p ≡ record_length p
unfolding part_three_length at_end at_vote at_ballot_half
part_three_length_lem p = omega arith

-- ---- places

-- place j of row c, in k rows of n
pub in_rows : (k n c j : ℕ) → c < k → j < n → c * n + j < k * n
in_rows k n c j lc lj = omega (arith, mul-le-mul_right n lc)

module _ (p : Parameters) where
  -- the three parts in the whole
  pub part_one_inside : at_first_dice p ≤ record_length p
  unfolding at_end at_vote at_ballot_half at_second_dice
  part_one_inside = omega arith

  pub part_two_inside : at_second_dice p ≤ record_length p
  unfolding at_end at_vote at_ballot_half
  part_two_inside = omega arith

  pub part_three_inside : at_end p ≤ record_length p
  part_three_inside = omega arith

  pub first_inside : first_width p ≤ at_first_dice p
  unfolding at_first_dice
  first_inside = omega arith

  pub ballot_inside : (j : ℕ) → j < p.ballots → at_ballot p j + 197 ≤ at_first_dice p
  unfolding at_ballot at_first_dice
  ballot_inside j lj = omega arith

  pub entry_inside : (l i : ℕ) → l < lists p → i < p.ballots → at_entry p l i + 196 ≤ at_first_dice p
  unfolding at_entry at_first_dice
  entry_inside l i ll li = omega (arith, in_rows (lists p) p.ballots l i ll li)

  pub first_dice_inside : at_first_dice p + 35 ≤ at_second_dice p
  unfolding at_second_dice
  first_dice_inside = omega arith

  pub link_inside : (c j : ℕ) → c < p.compared → j < p.ballots → at_link p c j + 10 ≤ at_second_dice p
  unfolding at_link at_second_dice
  link_inside c j lc lj = omega (arith, in_rows p.compared p.ballots c j lc lj)

  pub second_dice_inside : at_second_dice p + 31 ≤ at_end p
  unfolding at_end at_vote at_ballot_half
  second_dice_inside = omega arith

  -- a ballot's half, with the halves of the linked entries, ends before the next one's
  half_end : (j : ℕ) → j < p.ballots → at_ballot_half p j + 112 * (p.compared + 1) ≤ at_vote p 0
  unfolding at_vote at_ballot_half
  half_end j lj = omega (arith, mul-le-mul_right (p.compared + 1) lj)

  votes_inside : at_vote p 0 ≤ at_end p
  unfolding at_end at_vote
  votes_inside = omega arith

  pub ballot_half_inside : (j : ℕ) → j < p.ballots → at_ballot_half p j + 112 ≤ at_end p
  ballot_half_inside j lj = omega (arith, half_end j lj, votes_inside)

  pub list_half_inside : (j c : ℕ) → j < p.ballots → c < p.compared → at_list_half p j c + 112 ≤ at_end p
  unfolding at_list_half
  list_half_inside j c lj lc = omega (arith, half_end j lj, votes_inside)

  pub vote_inside : (i : ℕ) → i < p.ballots → at_vote p i + 7 ≤ at_end p
  unfolding at_end at_vote
  vote_inside i li = omega arith

  pub full_inside : (c i : ℕ) → c < p.compared → i < p.ballots → at_full_opening p c i + 220 ≤ at_end p
  unfolding at_full_opening at_end
  full_inside c i lc li = omega (arith, in_rows p.compared p.ballots c i lc li)

-- ---- what follows what: the next command of its kind, and behind the last one the next kind

module _ (p : Parameters) where
  pub first_next : first_width p ≡ at_ballot p 0
  unfolding at_ballot
  first_next = omega arith

  pub ballot_next : (j : ℕ) → at_ballot p j + 197 ≡ at_ballot p (suc j)
  unfolding at_ballot
  ballot_next j = omega arith

  pub ballots_end : at_ballot p p.ballots ≡ at_entry p 0 0
  unfolding at_ballot at_entry
  ballots_end = omega arith

  pub entry_next : (l i : ℕ) → at_entry p l i + 196 ≡ at_entry p l (suc i)
  unfolding at_entry
  entry_next l i = omega arith

  pub entry_list_end : (l : ℕ) → at_entry p l p.ballots ≡ at_entry p (suc l) 0
  unfolding at_entry
  entry_list_end l = omega arith

  pub entries_end : at_entry p (lists p) 0 ≡ at_first_dice p
  unfolding at_entry at_first_dice
  entries_end = omega arith

  pub first_dice_next : at_first_dice p + 35 ≡ at_link p 0 0
  unfolding at_link
  first_dice_next = omega arith

  pub link_next : (c j : ℕ) → at_link p c j + 10 ≡ at_link p c (suc j)
  unfolding at_link
  link_next c j = omega arith

  pub link_list_end : (c : ℕ) → at_link p c p.ballots ≡ at_link p (suc c) 0
  unfolding at_link
  link_list_end c = omega arith

  pub links_end : at_link p p.compared 0 ≡ at_second_dice p
  unfolding at_link at_second_dice
  links_end = omega arith

  pub second_dice_next : at_second_dice p + 31 ≡ at_ballot_half p 0
  unfolding at_ballot_half
  second_dice_next = omega arith

  pub ballot_half_next : (j : ℕ) → at_ballot_half p j + 112 ≡ at_list_half p j 0
  unfolding at_list_half
  ballot_half_next j = omega arith

  pub list_half_next : (j c : ℕ) → at_list_half p j c + 112 ≡ at_list_half p j (suc c)
  unfolding at_list_half
  list_half_next j c = omega arith

  pub list_halves_end : (j : ℕ) → at_list_half p j p.compared ≡ at_ballot_half p (suc j)
  unfolding at_list_half at_ballot_half
  list_halves_end j = omega arith

  pub halves_end : at_ballot_half p p.ballots ≡ at_vote p 0
  unfolding at_vote
  halves_end = omega arith

  pub vote_next : (i : ℕ) → at_vote p i + 7 ≡ at_vote p (suc i)
  unfolding at_vote
  vote_next i = omega arith

  pub votes_end : at_vote p p.ballots ≡ at_full_opening p 0 0
  unfolding at_full_opening
  votes_end = omega arith

  pub full_next : (c i : ℕ) → at_full_opening p c i + 220 ≡ at_full_opening p c (suc i)
  unfolding at_full_opening
  full_next c i = omega arith

  pub full_list_end : (c : ℕ) → at_full_opening p c p.ballots ≡ at_full_opening p (suc c) 0
  unfolding at_full_opening
  full_list_end c = omega arith

  pub full_openings_end : at_full_opening p p.compared 0 ≡ at_end p
  unfolding at_full_opening at_end
  full_openings_end = omega arith
