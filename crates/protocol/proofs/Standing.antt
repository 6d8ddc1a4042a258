-- The bytes that say something valid stand: they are laid out as due, and what is read from them is valid. Also what comes before the
-- dice, and the votes announced.
use mathlib.Core.Path.{◌≡◌, sym, ◌∙◌}
use mathlib.Core.List.{◌++◌, append_assoc}
use Prim.Native.Nat.{ℕ, suc, ◌+◌, ◌*◌, ◌%◌, ◌<◌}
use native.Mathlib.Omega.{arith}
use lib.ListN.{take}
use lib.Seq.{take_at}
use Rattle.laws.specs.Bytes.{number}
use Rattle.laws.specs.Masks.{bit}
use Rattle.laws.specs.Sums.{times, times_same}
use Rattle.laws.specs.Tables.{tabulate, same_tabulate}
use Rattle.laws.specs.Permutations.{Perm}
use Rattle.protocol.specs.declared.Place.TheVariants.{InBallot, InEntry}
use Rattle.protocol.specs.Terms.{item, opened, commitment}
use Rattle.protocol.specs.Tablet.{ballot_command}
use Rattle.protocol.specs.Layout.{lists, at_entry, at_first_dice, at_second_dice, at_ballot_half, at_vote}
use Rattle.protocol.specs.Record.{Board, Comparison, Disclosure, board_of, comparison_of, disclosure_of, entry_command, first_dice_command, link_command, second_dice_command, ballot_half_command, list_half_command, vote_command, full_command, part_one, part_two, part_three, encoding, parameters_of, id_of, ballot_commitment_of, entry_commitment_of, link_place, position_of, side_of, ballot_opening_of, list_half_place, list_opening_of, vote_of, full_place, full_opening_of}
use Rattle.protocol.specs.Stands.{Laid, Valid, Stands, Original}
use Rattle.protocol.specs.Results.{announced_votes}
use Rattle.protocol.proofs.Fitting.{Fits}
use Rattle.protocol.proofs.Operands.{reads_first, reads_byte, reads_number, entry_list, entry_position, link_list, link_ballot, ballot_half_ballot, list_half_list, list_half_position, vote_index, full_list, full_position}
use Rattle.protocol.proofs.Locating.{length_part_one, length_two_parts, length_encoding, at_first, at_ballot_lem, at_entry_lem, at_first_dice_lem, at_link_lem, at_second_dice_lem, at_ballot_half_lem, at_list_half_lem, at_vote_lem, at_full, at_end_lem}
use Rattle.protocol.proofs.Reading.{read_parameters, read_id, read_ballot_commitment, read_entry_commitment, read_first_dice, read_mask, read_link_place, read_position, read_shift, read_second_dice, read_side, read_ballot_opening, read_list_half_place, read_list_opening, read_vote, read_full_place, read_full_opening}

module _ (b : Board) (k : Comparison) (d : Disclosure) (f : Fits b k d) where
  -- ---- laid out as due

  list_small : (l : ℕ) → l < lists b.parameters → l < 256
  list_small l ll = omega (arith, f.compared)

  index_small : (i : ℕ) → i < b.parameters.ballots → i < 65536
  index_small i li = omega (arith, f.ballots)

  entry_laid : (l i : ℕ) → l < lists b.parameters → i < b.parameters.ballots
      → (item (encoding b k d) (at_entry b.parameters l i) ≡ 3)
      × ((number (encoding b k d) (at_entry b.parameters l i + 1) 1 ≡ l) × (number (encoding b k d) (at_entry b.parameters l i + 2) 2 ≡ i))
  unfolding entry_command
  entry_laid l i ll li =
      let h = at_entry_lem b k d f l i ll li in
      let c = b.entry_commitment l i in
      (reads_byte 3 h, (reads_number 1 l h (entry_list l i c) (list_small l ll), reads_number 2 i h (entry_position l i c) (index_small i li)))

  link_laid : (l j : ℕ) → l < lists b.parameters → bit k.mask l ≡ 1 → j < b.parameters.ballots
      → (item (encoding b k d) (link_place b.parameters (encoding b k d) l j) ≡ 5)
      × ((number (encoding b k d) (link_place b.parameters (encoding b k d) l j + 1) 1 ≡ l) × (number (encoding b k d) (link_place b.parameters (encoding b k d) l j + 2) 2 ≡ j))
  unfolding link_command
  link_laid l j ll e lj =
      let h = at_link_lem b k d f l j ll e lj in
      let p = k.position l j in
      let t = k.shift l j in
      rw (read_link_place b k d f l j)
      (reads_byte 5 h, (reads_number 1 l h (link_list l j p t) (list_small l ll), reads_number 2 j h (link_ballot l j p t) (index_small j lj)))

  ballot_half_laid : (j : ℕ) → j < b.parameters.ballots
      → (item (encoding b k d) (at_ballot_half b.parameters j) ≡ 7) × (number (encoding b k d) (at_ballot_half b.parameters j + 1) 2 ≡ j)
  unfolding ballot_half_command
  ballot_half_laid j lj =
      let h = at_ballot_half_lem b k d f j lj in
      (reads_byte 7 h, reads_number 2 j h (ballot_half_ballot j (d.side j) (d.ballot_opening j)) (index_small j lj))

  list_half_laid : (l j : ℕ) → l < lists b.parameters → bit k.mask l ≡ 1 → j < b.parameters.ballots
      → (item (encoding b k d) (list_half_place b.parameters (encoding b k d) l j) ≡ 8)
      × ((number (encoding b k d) (list_half_place b.parameters (encoding b k d) l j + 1) 1 ≡ l)
      × (number (encoding b k d) (list_half_place b.parameters (encoding b k d) l j + 2) 2 ≡ position_of b.parameters (encoding b k d) l j))
  unfolding list_half_command
  list_half_laid l j ll e lj =
      let h = at_list_half_lem b k d f l j ll e lj in
      let p = k.position l j in
      let o = d.list_opening l j in
      rw (read_list_half_place b k d f l j, read_position b k d f l j ll e lj)
      (reads_byte 8 h, (reads_number 1 l h (list_half_list l p o) (list_small l ll), reads_number 2 p h (list_half_position l p o) (f.positions l j ll e lj)))

  vote_laid : (i : ℕ) → i < b.parameters.ballots
      → (item (encoding b k d) (at_vote b.parameters i) ≡ 9) × (number (encoding b k d) (at_vote b.parameters i + 1) 2 ≡ i)
  unfolding vote_command
  vote_laid i li =
      let h = at_vote_lem b k d f i li in
      (reads_byte 9 h, reads_number 2 i h (vote_index i (d.vote i)) (index_small i li))

  full_laid : (l i : ℕ) → l < lists b.parameters → bit k.mask l ≡ 0 → i < b.parameters.ballots
      → (item (encoding b k d) (full_place b.parameters (encoding b k d) l i) ≡ 10)
      × ((number (encoding b k d) (full_place b.parameters (encoding b k d) l i + 1) 1 ≡ l) × (number (encoding b k d) (full_place b.parameters (encoding b k d) l i + 2) 2 ≡ i))
  unfolding full_command
  full_laid l i ll e li =
      let h = at_full b k d f l i ll e li in
      let o = d.full_opening l i in
      rw (read_full_place b k d f l i)
      (reads_byte 10 h, (reads_number 1 l h (full_list l i o) (list_small l ll), reads_number 2 i h (full_position l i o) (index_small i li)))

  laid : Laid b.parameters (encoding b k d)
  unfolding ballot_command first_dice_command second_dice_command
  laid =
      record {
        long = length_encoding b k d f;
        first = reads_first b.parameters (at_first b k d f);
        ballots = λ j lj. reads_byte 2 (at_ballot_lem b k d f j lj);
        entries = entry_laid;
        first_dice = reads_byte 4 (at_first_dice_lem b k d f);
        links = rw (read_mask b k d f) link_laid;
        second_dice = reads_byte 6 (at_second_dice_lem b k d f);
        ballot_halves = ballot_half_laid;
        list_halves = rw (read_mask b k d f) list_half_laid;
        votes = vote_laid;
        full_openings = rw (read_mask b k d f) full_laid;
        end = reads_byte 11 (at_end_lem b k d f);
      }

  -- ---- valid

  module _ (v : Valid b k d) where
    perm_read : (l : ℕ) → l < lists b.parameters → bit k.mask l ≡ 1 → Perm b.parameters.ballots (position_of b.parameters (encoding b k d) l)
    perm_read l ll e =
        let h = v.positions l ll e in
        record {
          below = λ j lj. rw (read_position b k d f l j ll e lj) (h.below j lj);
          apart = λ i j li lj s. h.apart i j li lj (sym (read_position b k d f l i ll e li) ∙ s ∙ read_position b k d f l j ll e lj);
        }

    ballot_opens_read : (j c : ℕ) → j < b.parameters.ballots → c < 3
        → commitment b.parameters (InBallot (id_of b.parameters (encoding b k d) j) (2 * c + side_of b.parameters (encoding b k d) j)) (ballot_opening_of b.parameters (encoding b k d) j c)
        ≡ ballot_commitment_of b.parameters (encoding b k d) j (2 * c + side_of b.parameters (encoding b k d) j)
    ballot_opens_read j c lj lc =
        rw (read_id b k d f j lj, read_side b k d f j lj, read_ballot_opening b k d f j c lj lc, read_ballot_commitment b k d f j (2 * c + d.side j) lj (omega (arith, v.sides j lj)))
        (v.ballot_opens j c lj lc)

    list_opens_read : (l j c : ℕ) → l < lists b.parameters → bit k.mask l ≡ 1 → j < b.parameters.ballots → c < 3
        → commitment b.parameters (InEntry l (position_of b.parameters (encoding b k d) l j) (2 * c + side_of b.parameters (encoding b k d) j)) (list_opening_of b.parameters (encoding b k d) l j c)
        ≡ entry_commitment_of b.parameters (encoding b k d) l (position_of b.parameters (encoding b k d) l j) (2 * c + side_of b.parameters (encoding b k d) j)
    list_opens_read l j c ll e lj lc =
        rw (
          read_position b k d f l j ll e lj,
          read_side b k d f j lj,
          read_list_opening b k d f l j c ll e lj lc,
          read_entry_commitment b k d f l (k.position l j) (2 * c + d.side j) ll ((v.positions l ll e).below j lj) (omega (arith, v.sides j lj)),
        )
        (v.list_opens l j c ll e lj lc)

    values_read : (l : ℕ) → l < lists b.parameters → bit k.mask l ≡ 0 → (x : ℕ)
        → times x
        (λ i. (opened (full_opening_of b.parameters (encoding b k d) l i 0) + opened (full_opening_of b.parameters (encoding b k d) l i 1) + opened (full_opening_of b.parameters (encoding b k d) l i 2) + opened (full_opening_of b.parameters (encoding b k d) l i 3) + opened (full_opening_of b.parameters (encoding b k d) l i 4) + opened (full_opening_of b.parameters (encoding b k d) l i 5)) % b.parameters.modulus)
        b.parameters.ballots
        ≡ times x (vote_of b.parameters (encoding b k d)) b.parameters.ballots
    values_read l ll e x =
        times_same x b.parameters.ballots (λ i li.
        rw (
          read_full_opening b k d f l i 0 ll e li (omega arith),
          read_full_opening b k d f l i 1 ll e li (omega arith),
          read_full_opening b k d f l i 2 ll e li (omega arith),
          read_full_opening b k d f l i 3 ll e li (omega arith),
          read_full_opening b k d f l i 4 ll e li (omega arith),
          read_full_opening b k d f l i 5 ll e li (omega arith),
        )) ∙ v.values l ll e x ∙ sym (times_same x b.parameters.ballots (read_vote b k d f))

    -- the two sides of a comparison
    ballot_sum : (j : ℕ) → j < b.parameters.ballots
        → opened (ballot_opening_of b.parameters (encoding b k d) j 0) + opened (ballot_opening_of b.parameters (encoding b k d) j 1) + opened (ballot_opening_of b.parameters (encoding b k d) j 2)
        ≡ opened (d.ballot_opening j 0) + opened (d.ballot_opening j 1) + opened (d.ballot_opening j 2)
    ballot_sum j lj =
        rw (read_ballot_opening b k d f j 0 lj (omega arith), read_ballot_opening b k d f j 1 lj (omega arith), read_ballot_opening b k d f j 2 lj (omega arith))

    list_sum : (l j : ℕ) → l < lists b.parameters → bit k.mask l ≡ 1 → j < b.parameters.ballots
        → opened (list_opening_of b.parameters (encoding b k d) l j 0) + opened (list_opening_of b.parameters (encoding b k d) l j 1) + opened (list_opening_of b.parameters (encoding b k d) l j 2)
        ≡ opened (d.list_opening l j 0) + opened (d.list_opening l j 1) + opened (d.list_opening l j 2)
    list_sum l j ll e lj =
        rw (
          read_list_opening b k d f l j 0 ll e lj (omega arith),
          read_list_opening b k d f l j 1 ll e lj (omega arith),
          read_list_opening b k d f l j 2 ll e lj (omega arith),
        )

    valid : Valid (board_of (encoding b k d)) (comparison_of (encoding b k d)) (disclosure_of (encoding b k d))
    valid =
        rw (read_parameters b k d f, read_first_dice b k d f, read_mask b k d f, read_second_dice b k d f)
        record {
          modulus_low = v.modulus_low;
          modulus_high = v.modulus_high;
          ballots_low = v.ballots_low;
          ballots_high = v.ballots_high;
          compared_low = v.compared_low;
          compared_high = v.compared_high;
          ids_rise = λ j lj. rw (read_id b k d f j (omega arith), read_id b k d f (suc j) lj) (v.ids_rise j lj);
          first_fair = v.first_fair;
          mask_ones = v.mask_ones;
          mask_bits = v.mask_bits;
          positions = perm_read;
          shifts = λ l j ll e lj. rw (read_shift b k d f l j ll e lj) (v.shifts l j ll e lj);
          second_fair = v.second_fair;
          sides = λ j lj. rw (read_side b k d f j lj) (v.sides j lj);
          ballot_numbers = λ j c lj lc. rw (read_ballot_opening b k d f j c lj lc) (v.ballot_numbers j c lj lc);
          ballot_opens = ballot_opens_read;
          list_numbers = λ l j c ll e lj lc. rw (read_list_opening b k d f l j c ll e lj lc) (v.list_numbers l j c ll e lj lc);
          list_opens = list_opens_read;
          first_halves_agree =
              λ l j ll e lj s. rw (ballot_sum j lj, list_sum l j ll e lj, read_shift b k d f l j ll e lj)
              (v.first_halves_agree l j ll e lj (sym (read_side b k d f j lj) ∙ s));
          second_halves_agree =
              λ l j ll e lj s. rw (ballot_sum j lj, list_sum l j ll e lj, read_shift b k d f l j ll e lj)
              (v.second_halves_agree l j ll e lj (sym (read_side b k d f j lj) ∙ s));
          votes_below = λ i li. rw (read_vote b k d f i li) (v.votes_below i li);
          votes_rise = λ i li. rw (read_vote b k d f i (omega arith), read_vote b k d f (suc i) li) (v.votes_rise i li);
          full_numbers = λ l i q ll e li lq. rw (read_full_opening b k d f l i q ll e li lq) (v.full_numbers l i q ll e li lq);
          full_opens =
              λ l i q ll e li lq. rw (read_full_opening b k d f l i q ll e li lq, read_entry_commitment b k d f l i q ll li lq) (v.full_opens l i q ll e li lq);
          values = values_read;
        }

  original : Original b → Original (board_of (encoding b k d))
  original o = rw (read_parameters b k d f) record {
    apart = λ i j s t l lj ls lt. rw (read_ballot_commitment b k d f i s (omega arith) ls, read_ballot_commitment b k d f j t lj lt) (o.apart i j s t l lj ls lt);
  }

  pub stands_laid : Laid (parameters_of (encoding b k d)) (encoding b k d)
  stands_laid = rw (read_parameters b k d f) laid

  pub stands_valid : Valid b k d → Valid (board_of (encoding b k d)) (comparison_of (encoding b k d)) (disclosure_of (encoding b k d))
  stands_valid = valid

  pub stands : Valid b k d → Original b → Stands (encoding b k d)
  stands v o = record { laid = stands_laid; valid = valid v; original = original o }

  -- ---- what comes before the dice

  pub before_first_dice_lem : take (at_first_dice b.parameters) (encoding b k d) ≡ part_one b
  unfolding encoding
  before_first_dice_lem = take_at (part_one b) _ (at_first_dice b.parameters) (length_part_one b f.ballot_commitments f.entry_commitments)

  pub before_second_dice_lem : take (at_second_dice b.parameters) (encoding b k d) ≡ part_one b ++ part_two b.parameters k
  unfolding encoding
  before_second_dice_lem =
      rw (← append_assoc (part_one b) (part_two b.parameters k) (part_three b.parameters k.mask k.position d))
      (take_at (part_one b ++ part_two b.parameters k) _ (at_second_dice b.parameters) (length_two_parts b k d f))

  -- the same by the parameters that are read
  pub read_before_first_dice : take (at_first_dice (parameters_of (encoding b k d))) (encoding b k d) ≡ part_one b
  read_before_first_dice = rw (read_parameters b k d f) before_first_dice_lem

  pub read_before_second_dice : take (at_second_dice (parameters_of (encoding b k d))) (encoding b k d) ≡ part_one b ++ part_two b.parameters k
  read_before_second_dice = rw (read_parameters b k d f) before_second_dice_lem

  -- ---- the votes announced

  pub announces : announced_votes (encoding b k d) ≡ tabulate d.vote b.parameters.ballots
  unfolding announced_votes
  announces = rw (read_parameters b k d f) (same_tabulate (vote_of b.parameters (encoding b k d)) d.vote b.parameters.ballots (read_vote b k d f))
