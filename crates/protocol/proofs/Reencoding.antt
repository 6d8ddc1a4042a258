-- A record that stands is the encoding of what it says.
use mathlib.Core.Path.{◌≡◌, refl, ap, ◌∙◌}
use mathlib.Core.List.{List, ◌∷◌, ◌++◌}
use Prim.Native.Nat.{ℕ, suc, ◌+◌, ◌-◌, ◌*◌, ◌≤◌, ◌<◌}
use native.Mathlib.Omega.{arith}
use lib.ListN.{length}
use Rattle.laws.specs.Bytes.{number, bytes, Below}
use Rattle.laws.specs.Tests.{equal}
use Rattle.laws.specs.Masks.{bit, set_before, clear_before, set_ones, set_clear}
use Rattle.laws.specs.Chunks.{piece, chunks}
use Rattle.laws.specs.Spans.{Span, span_move, span_join, span_piece, span_one, span_number, span_chunks, span_pieces, span_whole, span_set, span_clear}
use Rattle.protocol.specs.declared.Form.{Form}
use Rattle.protocol.specs.declared.Form.TheVariants.{Unnumbered, Numbered}
use Rattle.protocol.specs.declared.Parameters.{Parameters}
use Rattle.protocol.specs.Terms.{item, election_number}
use Rattle.protocol.specs.Tablet.{ballot_command}
use Rattle.protocol.specs.Layout.{first_code, number_width, first_width, lists, at_ballot, at_entry, at_first_dice, at_link, at_second_dice, at_ballot_half, at_list_half, at_vote, at_full_opening, at_end, record_length}
use Rattle.protocol.specs.Record.{form_of, parameters_of, id_of, ballot_commitment_of, entry_commitment_of, first_dice_of, mask_of, link_place, position_of, shift_of, second_dice_of, side_of, ballot_opening_of, list_half_place, list_opening_of, vote_of, full_place, full_opening_of, board_of, comparison_of, disclosure_of, form_bytes, first_command, entry_command, first_dice_command, link_command, second_dice_command, ballot_half_command, list_half_command, vote_command, full_command, part_one, part_two, halves, part_three, encoding}
use Rattle.protocol.specs.Stands.{Laid, Stands}
use Rattle.protocol.proofs.Lengths.{first_next, ballot_next, ballots_end, entry_next, entry_list_end, entries_end, first_dice_next, link_next, link_list_end, links_end, second_dice_next, ballot_half_next, list_half_next, list_halves_end, halves_end, vote_next, votes_end, full_next, full_list_end, full_openings_end}
use Rattle.protocol.proofs.Within.{Shaped, stands_shaped, first_within, ballot_within, entry_within, first_dice_within, link_within, second_dice_within, ballot_half_within, list_half_within, vote_within, full_within, end_within}

-- ---- a command: its byte, then operands one behind the other

module _ {r : List ℕ} (small : Below 256 r) where
  -- the command byte and a first number
  opens : (a code w x : ℕ) → item r a ≡ code → number r (a + 1) w ≡ x → a + 1 + w ≤ length r → Span r a (a + 1 + w) (code ∷ bytes w x)
  opens a code w x h e l = span_join (span_one r a code h (omega arith)) (span_number r (a + 1) w x small e l)

  -- one more number, at place b
  more : {c : List ℕ} {a e : ℕ} → Span r a e c → (b w x : ℕ) → e ≡ b → number r b w ≡ x → b + w ≤ length r → Span r a (b + w) (c ++ bytes w x)
  more s b w x at e l = span_join (span_move refl at s) (span_number r b w x small e l)

-- n pieces of width w, at place b
pieces : {r c : List ℕ} {a e : ℕ} → Span r a e c → (b w n : ℕ) (f : ℕ → List ℕ) → e ≡ b → ((j : ℕ) → j < n → f j ≡ piece r (b + w * j) w)
    → Span r a (b + w * n) (c ++ chunks f n)
pieces {r} s b w n f at h = span_join (span_move refl at s) (span_pieces r f b w n h)

-- the same span, its end written otherwise
ends : {r c : List ℕ} {a e e' : ℕ} → Span r a e c → e ≡ e' → Span r a e' c
ends s q = span_move refl q s

module _ {p : Parameters} {r : List ℕ} (small : Below 256 r) (laid : Laid p r) (shaped : Shaped p r) where
  -- ---- each command, where it is due

  ballot_span : (j : ℕ) → j < p.ballots → Span r (at_ballot p j) (at_ballot p (suc j)) (ballot_command (id_of p r j) (ballot_commitment_of p r j))
  unfolding ballot_command id_of ballot_commitment_of
  ballot_span j lj =
      let a = at_ballot p j in
      let l : a + 197 ≤ length r = ballot_within shaped j lj in
      ends (pieces (opens small a 2 4 _ (laid.ballots j lj) refl (omega arith)) (a + 5) 32 6 _ (omega arith) (λ q lq. refl)) (omega (arith, ballot_next p j))

  entry_span : (l i : ℕ) → l < lists p → i < p.ballots → Span r (at_entry p l i) (at_entry p l (suc i)) (entry_command l i (entry_commitment_of p r l i))
  unfolding entry_command entry_commitment_of
  entry_span l i ll li =
      let a = at_entry p l i in
      let w : a + 196 ≤ length r = entry_within shaped l i ll li in
      let t = laid.entries l i ll li in
      ends (pieces (more small (opens small a 3 1 _ t.0 t.1.0 (omega arith)) (a + 2) 2 _ (omega arith) t.1.1 (omega arith)) (a + 4) 32 6 _ (omega arith) (λ q lq. refl))
      (omega (arith, entry_next p l i))

  first_dice_span : Span r (at_first_dice p) (at_link p 0 0) (first_dice_command (first_dice_of p r) (mask_of p r))
  unfolding first_dice_command first_dice_of mask_of
  first_dice_span =
      let a = at_first_dice p in
      let w : a + 35 ≤ length r = first_dice_within shaped in
      ends (more small (span_join (span_one r a 4 laid.first_dice (omega arith)) (span_piece (a + 1) 30 refl)) (a + 31) 4 _ (omega arith) refl (omega arith))
      (omega (arith, first_dice_next p))

  link_span : (l j : ℕ) → l < lists p → bit (mask_of p r) l ≡ 1 → j < p.ballots
      → Span r (at_link p (set_before (mask_of p r) l) j) (at_link p (set_before (mask_of p r) l) (suc j)) (link_command l j (position_of p r l j) (shift_of p r l j))
  unfolding link_command position_of shift_of link_place
  link_span l j ll b lj =
      let a = at_link p (set_before (mask_of p r) l) j in
      let w : a + 10 ≤ length r = link_within shaped l j ll b lj in
      let t = laid.links l j ll b lj in
      ends
      (more small
      (more small (more small (opens small a 5 1 _ t.0 t.1.0 (omega arith)) (a + 2) 2 _ (omega arith) t.1.1 (omega arith)) (a + 4) 2 _ (omega arith) refl (omega arith))
      (a + 6) 4 _ (omega arith) refl (omega arith))
      (omega (arith, link_next p (set_before (mask_of p r) l) j))

  second_dice_span : Span r (at_second_dice p) (at_ballot_half p 0) (second_dice_command (second_dice_of p r))
  unfolding second_dice_command second_dice_of
  second_dice_span =
      let a = at_second_dice p in
      let w : a + 31 ≤ length r = second_dice_within shaped in
      ends (span_join (span_one r a 6 laid.second_dice (omega arith)) (span_piece (a + 1) 30 refl)) (omega (arith, second_dice_next p))

  ballot_half_span : (j : ℕ) → j < p.ballots → Span r (at_ballot_half p j) (at_list_half p j 0) (ballot_half_command j (side_of p r j) (ballot_opening_of p r j))
  unfolding ballot_half_command side_of ballot_opening_of
  ballot_half_span j lj =
      let a = at_ballot_half p j in
      let w : a + 112 ≤ length r = ballot_half_within shaped j lj in
      let t = laid.ballot_halves j lj in
      ends (pieces (more small (opens small a 7 2 _ t.0 t.1 (omega arith)) (a + 3) 1 _ (omega arith) refl (omega arith)) (a + 4) 36 3 _ (omega arith) (λ c lc. refl))
      (omega (arith, ballot_half_next p j))

  list_half_span : (l j : ℕ) → l < lists p → bit (mask_of p r) l ≡ 1 → j < p.ballots
      → Span r (at_list_half p j (set_before (mask_of p r) l)) (at_list_half p j (suc (set_before (mask_of p r) l))) (list_half_command l (position_of p r l j) (list_opening_of p r l j))
  unfolding list_half_command list_opening_of list_half_place
  list_half_span l j ll b lj =
      let a = at_list_half p j (set_before (mask_of p r) l) in
      let w : a + 112 ≤ length r = list_half_within shaped l j ll b lj in
      let t = laid.list_halves l j ll b lj in
      ends (pieces (more small (opens small a 8 1 _ t.0 t.1.0 (omega arith)) (a + 2) 2 _ (omega arith) t.1.1 (omega arith)) (a + 4) 36 3 _ (omega arith) (λ c lc. refl))
      (omega (arith, list_half_next p j (set_before (mask_of p r) l)))

  vote_span : (i : ℕ) → i < p.ballots → Span r (at_vote p i) (at_vote p (suc i)) (vote_command i (vote_of p r i))
  unfolding vote_command vote_of
  vote_span i li =
      let a = at_vote p i in
      let w : a + 7 ≤ length r = vote_within shaped i li in
      let t = laid.votes i li in
      ends (more small (opens small a 9 2 _ t.0 t.1 (omega arith)) (a + 3) 4 _ (omega arith) refl (omega arith)) (omega (arith, vote_next p i))

  full_span : (l i : ℕ) → l < lists p → bit (mask_of p r) l ≡ 0 → i < p.ballots
      → Span r (at_full_opening p (clear_before (mask_of p r) l) i) (at_full_opening p (clear_before (mask_of p r) l) (suc i)) (full_command l i (full_opening_of p r l i))
  unfolding full_command full_opening_of full_place
  full_span l i ll b li =
      let a = at_full_opening p (clear_before (mask_of p r) l) i in
      let w : a + 220 ≤ length r = full_within shaped l i ll b li in
      let t = laid.full_openings l i ll b li in
      ends (pieces (more small (opens small a 10 1 _ t.0 t.1.0 (omega arith)) (a + 2) 2 _ (omega arith) t.1.1 (omega arith)) (a + 4) 36 6 _ (omega arith) (λ q lq. refl))
      (omega (arith, full_next p (clear_before (mask_of p r) l) i))

-- ---- the three parts

module _ {r : List ℕ} (small : Below 256 r) (stands : Stands r) where
  shaped_here : Shaped (parameters_of r) r
  shaped_here = stands_shaped stands

  -- the command byte, and the election's number
  form_span : (form : Form) → form_of r ≡ form → item r 0 ≡ first_code form → 1 + number_width form ≤ length r → Span r 0 (1 + number_width form) (form_bytes form)
  unfolding form_bytes number_width first_code form_of election_number equal
  form_span Unnumbered is h l = span_one r 0 1 h l
  form_span (Numbered election) is h l = opens small 0 12 4 election h (ap election_number (rw h at is)) l

  first_span : Span r 0 (first_width (parameters_of r)) (first_command (parameters_of r))
  unfolding first_command parameters_of
  first_span =
      let w : ℕ = number_width (form_of r) in
      let l : 8 + w ≤ length r = first_within shaped_here in
      ends
      (span_join (more small (form_span (form_of r) refl stands.laid.first (omega arith)) (1 + w) 4 _ (omega arith) refl (omega arith))
      (span_join (span_move (omega arith) refl (span_number r (5 + w) 2 _ small refl (omega arith))) (span_move (omega arith) refl (span_number r (7 + w) 1 _ small refl (omega arith)))))
      (omega arith)

  -- of the 2m lists m are compared, and m are opened
  set_all : set_before (mask_of (parameters_of r) r) (lists (parameters_of r)) ≡ (parameters_of r).compared
  set_all = set_ones (lists (parameters_of r)) (mask_of (parameters_of r) r) shaped_here.mask_below ∙ shaped_here.mask_ones

  clear_all : clear_before (mask_of (parameters_of r) r) (lists (parameters_of r)) ≡ (parameters_of r).compared
  clear_all = omega (arith, set_all, set_clear (mask_of (parameters_of r) r) (lists (parameters_of r)))

  part_one_lem : Span r 0 (at_first_dice (parameters_of r)) (part_one (board_of r))
  unfolding part_one
  part_one_lem =
      let p = parameters_of r in
      ends
      (span_join (ends first_span (first_next p))
      (span_join (ends (span_chunks _ (at_ballot p) p.ballots (ballot_span small stands.laid shaped_here)) (ballots_end p))
      (span_chunks _ (λ l. at_entry p l 0) (lists p)
      (λ l ll. ends (span_chunks _ (at_entry p l) p.ballots (λ i li. entry_span small stands.laid shaped_here l i ll li)) (entry_list_end p l)))))
      (entries_end p)

  part_two_lem : Span r (at_first_dice (parameters_of r)) (at_second_dice (parameters_of r)) (part_two (parameters_of r) (comparison_of r))
  unfolding part_two
  part_two_lem =
      let p = parameters_of r in
      ends
      (span_join (first_dice_span small stands.laid shaped_here)
      (span_set _ (λ c. at_link p c 0) (mask_of p r) (lists p)
      (λ l ll b. ends
      (span_chunks _ (at_link p (set_before (mask_of p r) l)) p.ballots (λ j lj. link_span small stands.laid shaped_here l j ll b lj)) (link_list_end p (set_before (mask_of p r) l)))))
      (ap (λ (c : ℕ). at_link p c 0) set_all ∙ links_end p)

  halves_span : (j : ℕ) → j < (parameters_of r).ballots
      → Span r (at_ballot_half (parameters_of r) j) (at_ballot_half (parameters_of r) (suc j)) (halves (parameters_of r) (mask_of (parameters_of r) r) (position_of (parameters_of r) r) (disclosure_of r) j)
  unfolding halves
  halves_span j lj =
      let p = parameters_of r in
      ends
      (span_join (ballot_half_span small stands.laid shaped_here j lj)
      (span_set _ (at_list_half p j) (mask_of p r) (lists p) (λ l ll b. list_half_span small stands.laid shaped_here l j ll b lj)))
      (ap (at_list_half p j) set_all ∙ list_halves_end p j)

  part_three_lem : Span r (at_second_dice (parameters_of r)) (record_length (parameters_of r)) (part_three (parameters_of r) (mask_of (parameters_of r) r) (position_of (parameters_of r) r) (disclosure_of r))
  unfolding part_three
  part_three_lem =
      let p = parameters_of r in
      span_join (second_dice_span small stands.laid shaped_here)
      (span_join (ends (span_chunks _ (at_ballot_half p) p.ballots halves_span) (halves_end p))
      (span_join (ends (span_chunks _ (at_vote p) p.ballots (vote_span small stands.laid shaped_here)) (votes_end p))
      (span_join
      (ends
      (span_clear _ (λ c. at_full_opening p c 0) (mask_of p r) (lists p)
      (λ l ll b. ends
      (span_chunks _ (at_full_opening p (clear_before (mask_of p r) l)) p.ballots (λ i li. full_span small stands.laid shaped_here l i ll b li)) (full_list_end p (clear_before (mask_of p r) l))))
      (ap (λ (c : ℕ). at_full_opening p c 0) clear_all ∙ full_openings_end p))
      (span_one r (at_end p) 11 stands.laid.end (omega (arith, end_within shaped_here))))))

pub re_encoding : (r : List ℕ) → Below 256 r → Stands r → encoding (board_of r) (comparison_of r) (disclosure_of r) ≡ r
unfolding encoding
re_encoding r small stands =
    span_whole (record_length (parameters_of r))
    (span_join (part_one_lem small stands) (span_join (part_two_lem small stands) (part_three_lem small stands))) (stands_shaped stands).long
