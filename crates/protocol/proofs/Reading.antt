-- What is read from the bytes that say a record is what was said.
use mathlib.Core.Path.{◌≡◌, refl, ap}
use Prim.Native.Nat.{ℕ, ◌+◌, ◌*◌, ◌<◌}
use native.Mathlib.Omega.{arith}
use Rattle.laws.specs.Masks.{bit, set_before, clear_before}
use Rattle.protocol.specs.Layout.{lists, at_ballot, at_entry, at_first_dice, at_link, at_second_dice, at_ballot_half, at_list_half, at_full_opening}
use Rattle.protocol.specs.Record.{Board, Comparison, Disclosure, encoding, parameters_of, id_of, ballot_commitment_of, entry_commitment_of, first_dice_of, mask_of, link_place, position_of, shift_of, second_dice_of, side_of, ballot_opening_of, list_half_place, list_opening_of, vote_of, full_place, full_opening_of}
use Rattle.protocol.proofs.Fitting.{Fits}
use Rattle.protocol.proofs.Operands.{reads_number, reads_piece, reads_parameters, ballot_id_lem, ballot_commitment_lem, entry_commitment_lem, first_dice_dice, first_dice_mask, link_position_lem, link_shift_lem, second_dice_dice, ballot_half_side, ballot_half_opening, list_half_opening, vote_vote, full_opening_lem}
use Rattle.protocol.proofs.Locating.{at_first, at_ballot_lem, at_entry_lem, at_first_dice_lem, at_link_lem, at_second_dice_lem, at_ballot_half_lem, at_list_half_lem, at_vote_lem, at_full}

module _ (b : Board) (k : Comparison) (d : Disclosure) (f : Fits b k d) where
  pub read_parameters : parameters_of (encoding b k d) ≡ b.parameters
  read_parameters = reads_parameters b.parameters (at_first b k d f) f.election f.modulus f.ballots (omega (arith, f.compared))

  pub read_id : (j : ℕ) → j < b.parameters.ballots → id_of b.parameters (encoding b k d) j ≡ b.id j
  unfolding id_of
  read_id j lj = reads_number 4 (b.id j) (at_ballot_lem b k d f j lj) (ballot_id_lem (b.id j) (b.ballot_commitment j)) (f.ids j lj)

  pub read_ballot_commitment : (j q : ℕ) → j < b.parameters.ballots → q < 6 → ballot_commitment_of b.parameters (encoding b k d) j q ≡ b.ballot_commitment j q
  unfolding ballot_commitment_of
  read_ballot_commitment j q lj lq =
      reads_piece (at_ballot b.parameters j + 5 + 32 * q) 32 (b.ballot_commitment j q) (at_ballot_lem b k d f j lj)
      (ballot_commitment_lem (b.id j) (b.ballot_commitment j) (λ q lq. f.ballot_commitments j q lj lq) q lq) (omega arith) (f.ballot_commitments j q lj lq)

  pub read_entry_commitment : (l i q : ℕ) → l < lists b.parameters → i < b.parameters.ballots → q < 6
      → entry_commitment_of b.parameters (encoding b k d) l i q ≡ b.entry_commitment l i q
  unfolding entry_commitment_of
  read_entry_commitment l i q ll li lq =
      reads_piece (at_entry b.parameters l i + 4 + 32 * q) 32 (b.entry_commitment l i q) (at_entry_lem b k d f l i ll li)
      (entry_commitment_lem l i (b.entry_commitment l i) (λ q lq. f.entry_commitments l i q ll li lq) q lq) (omega arith) (f.entry_commitments l i q ll li lq)

  pub read_first_dice : first_dice_of b.parameters (encoding b k d) ≡ k.dice
  unfolding first_dice_of
  read_first_dice = reads_piece (at_first_dice b.parameters + 1) 30 k.dice (at_first_dice_lem b k d f) (first_dice_dice k.dice k.mask) refl f.first_dice

  pub read_mask : mask_of b.parameters (encoding b k d) ≡ k.mask
  unfolding mask_of
  read_mask = reads_number 4 k.mask (at_first_dice_lem b k d f) (first_dice_mask k.dice k.mask f.first_dice) f.mask

  -- the places that follow from the mask
  pub read_link_place : (l j : ℕ) → link_place b.parameters (encoding b k d) l j ≡ at_link b.parameters (set_before k.mask l) j
  unfolding link_place
  read_link_place l j = ap (λ (x : ℕ). at_link b.parameters (set_before x l) j) read_mask

  pub read_list_half_place : (l j : ℕ) → list_half_place b.parameters (encoding b k d) l j ≡ at_list_half b.parameters j (set_before k.mask l)
  unfolding list_half_place
  read_list_half_place l j = ap (λ (x : ℕ). at_list_half b.parameters j (set_before x l)) read_mask

  pub read_full_place : (l i : ℕ) → full_place b.parameters (encoding b k d) l i ≡ at_full_opening b.parameters (clear_before k.mask l) i
  unfolding full_place
  read_full_place l i = ap (λ (x : ℕ). at_full_opening b.parameters (clear_before x l) i) read_mask

  pub read_position : (l j : ℕ) → l < lists b.parameters → bit k.mask l ≡ 1 → j < b.parameters.ballots → position_of b.parameters (encoding b k d) l j ≡ k.position l j
  unfolding position_of
  read_position l j ll e lj =
      rw (read_link_place l j)
      (reads_number 2 (k.position l j) (at_link_lem b k d f l j ll e lj) (link_position_lem l j (k.position l j) (k.shift l j)) (f.positions l j ll e lj))

  pub read_shift : (l j : ℕ) → l < lists b.parameters → bit k.mask l ≡ 1 → j < b.parameters.ballots → shift_of b.parameters (encoding b k d) l j ≡ k.shift l j
  unfolding shift_of
  read_shift l j ll e lj =
      rw (read_link_place l j)
      (reads_number 4 (k.shift l j) (at_link_lem b k d f l j ll e lj) (link_shift_lem l j (k.position l j) (k.shift l j)) (f.shifts l j ll e lj))

  pub read_second_dice : second_dice_of b.parameters (encoding b k d) ≡ d.dice
  unfolding second_dice_of
  read_second_dice = reads_piece (at_second_dice b.parameters + 1) 30 d.dice (at_second_dice_lem b k d f) (second_dice_dice d.dice) refl f.second_dice

  pub read_side : (j : ℕ) → j < b.parameters.ballots → side_of b.parameters (encoding b k d) j ≡ d.side j
  unfolding side_of
  read_side j lj = reads_number 1 (d.side j) (at_ballot_half_lem b k d f j lj) (ballot_half_side j (d.side j) (d.ballot_opening j)) (f.sides j lj)

  pub read_ballot_opening : (j c : ℕ) → j < b.parameters.ballots → c < 3 → ballot_opening_of b.parameters (encoding b k d) j c ≡ d.ballot_opening j c
  unfolding ballot_opening_of
  read_ballot_opening j c lj lc =
      reads_piece (at_ballot_half b.parameters j + 4 + 36 * c) 36 (d.ballot_opening j c) (at_ballot_half_lem b k d f j lj)
      (ballot_half_opening j (d.side j) (d.ballot_opening j) (λ c lc. f.ballot_openings j c lj lc) c lc) (omega arith) (f.ballot_openings j c lj lc)

  pub read_list_opening : (l j c : ℕ) → l < lists b.parameters → bit k.mask l ≡ 1 → j < b.parameters.ballots → c < 3
      → list_opening_of b.parameters (encoding b k d) l j c ≡ d.list_opening l j c
  unfolding list_opening_of
  read_list_opening l j c ll e lj lc =
      reads_piece (list_half_place b.parameters (encoding b k d) l j + 4 + 36 * c) 36 (d.list_opening l j c) (at_list_half_lem b k d f l j ll e lj)
      (list_half_opening l (k.position l j) (d.list_opening l j) (λ c lc. f.list_openings l j c ll e lj lc) c lc) (omega (arith, read_list_half_place l j)) (f.list_openings l j c ll e lj lc)

  pub read_vote : (i : ℕ) → i < b.parameters.ballots → vote_of b.parameters (encoding b k d) i ≡ d.vote i
  unfolding vote_of
  read_vote i li = reads_number 4 (d.vote i) (at_vote_lem b k d f i li) (vote_vote i (d.vote i)) (f.votes i li)

  pub read_full_opening : (l i q : ℕ) → l < lists b.parameters → bit k.mask l ≡ 0 → i < b.parameters.ballots → q < 6
      → full_opening_of b.parameters (encoding b k d) l i q ≡ d.full_opening l i q
  unfolding full_opening_of
  read_full_opening l i q ll e li lq =
      reads_piece (full_place b.parameters (encoding b k d) l i + 4 + 36 * q) 36 (d.full_opening l i q) (at_full b k d f l i ll e li)
      (full_opening_lem l i (d.full_opening l i) (λ q lq. f.full_openings l i q ll e li lq) q lq) (omega (arith, read_full_place l i)) (f.full_openings l i q ll e li lq)
