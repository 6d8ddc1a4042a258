-- The program's page, the announced votes' refusal and the draw of a mask, joined to judging and to the parts that the servers write.
use mathlib.Core.Path.{◌≡◌, refl, ap, ◌∙◌}
use mathlib.Core.Logic.{◌↔◌, ◌≢◌}
use mathlib.Core.Bool.{Bool, true, false}
use mathlib.Core.List.{List, [], ◌∷◌, ◌++◌}
use Prim.Native.Nat.{ℕ, zero, suc, ◌≤◌, ◌<◌}
use native.Mathlib.Omega.{arith}
use lib.ListN.{length}
use Rattle.laws.specs.Tests.{at_most, equal, choose, is_at_most, not_at_most, equal_iff}
use Rattle.laws.specs.Bytes.{number}
use Rattle.laws.specs.Faults.{rule, rule_kept, rules, number_of}
use Rattle.protocol.specs.declared.Form.{Form}
use Rattle.protocol.specs.Answers.{done, refused, answer_of, accepted}
use Rattle.protocol.specs.Terms.{modulus_in_limits, ballots_in_limits, lists_in_limits, in_limits, item, decimal}
use Rattle.protocol.specs.Layout.{part_one_length}
use Rattle.protocol.specs.Record.{parameters_of}
use Rattle.protocol.specs.Judging.{first_fault, judged}
use Rattle.protocol.specs.Inputs.{Slices, inputs_of}
use Rattle.protocol.specs.Refusals.{refusal, part_two_drawn_refusal}
use Rattle.protocol.specs.Servers.{posted_board, first_part, mask_for}
use Rattle.protocol.specs.Results.{announced_votes, announced_refusal, accepted_word, election_word, election_line, accepted_lines, refused_word, too_long_word, tally_lines, page_of, page, draw_refusal, drawn}
use Rattle.protocol.proofs.Honesty.{length_commitment}
use Rattle.protocol.proofs.Unrefused.{unrefused}
use Rattle.protocol.proofs.Receipts.{number_done}
use Rattle.protocol.proofs.Locating.{length_part_one}
use Rattle.protocol.proofs.Forms.{form_numbered, form_unnumbered}

-- ---- the number that an answer has

number_refused : (k n : ℕ) (v : List ℕ) → answer_of k v ≡ refused n → k ≡ n
unfolding answer_of
number_refused zero n v e = cc
number_refused (suc k) n v e = cc

never_zero : (k : ℕ) → answer_of k [] ≡ refused 0 → ⊥
unfolding answer_of
never_zero zero e = let b : ◌≡◌ {A = ℕ} 0 1 = cc in omega arith
never_zero (suc k) e = let b : suc k ≡ 0 = cc in omega arith

module _ (drawn : Bool) (r : List ℕ) where
  accepted_number : judged drawn r ≡ accepted → number_of (first_fault drawn r) ≡ 0
  unfolding judged
  accepted_number e = number_done (number_of (first_fault drawn r)) [] [] e

  refused_number : (k : ℕ) → judged drawn r ≡ refused k → number_of (first_fault drawn r) ≡ k
  unfolding judged
  refused_number k e = number_refused (number_of (first_fault drawn r)) k [] e

  -- a refusal's number is not 0
  refused_some : (k : ℕ) → judged drawn r ≡ refused k → k ≢ 0
  unfolding judged
  refused_some k e z = never_zero (number_of (first_fault drawn r)) (rw z at e)

-- ---- the page

refused_page : (k : ℕ) (form : Form) (votes : List ℕ) → k ≢ 0 → page_of k form votes ≡ refused_word ++ (decimal k ++ (10 ∷ []))
unfolding page_of
refused_page zero form votes ne = absurd (ne refl)
refused_page (suc k) form votes ne = refl

module _ (r : List ℕ) where
  -- "judges it as drawn, and writes the line `ACCEPTED`, then per distinct announced vote, rising, a line"
  pub page_accepted : length r ≤ 65536 → judged true r ≡ accepted
      → page r ≡ accepted_lines (parameters_of r).form ++ tally_lines (announced_votes r)
  unfolding page page_of
  page_accepted h e =
      let t : at_most (length r) 65536 ≡ true = is_at_most h in
      let z : number_of (first_fault true r) ≡ 0 = accepted_number true r e in
      rw (t, z)

  -- with 0C: "On the line after `ACCEPTED` .. `ELECTION`, a space and the number in decimal", and with 01 no such line
  pub page_numbered : length r ≤ 65536 → judged true r ≡ accepted → item r 0 ≡ 0x0C
      → page r ≡ ((accepted_word ++ (10 ∷ [])) ++ (election_word ++ (decimal (number r 1 4) ++ (10 ∷ [])))) ++ tally_lines (announced_votes r)
  unfolding accepted_lines election_line parameters_of
  page_numbered h e b = page_accepted h e ∙ ap (λ (form : Form). accepted_lines form ++ tally_lines (announced_votes r)) (form_numbered r b)

  pub page_unnumbered : length r ≤ 65536 → judged true r ≡ accepted → item r 0 ≢ 0x0C
      → page r ≡ (accepted_word ++ (10 ∷ [])) ++ tally_lines (announced_votes r)
  unfolding accepted_lines election_line parameters_of
  page_unnumbered h e ne = page_accepted h e ∙ ap (λ (form : Form). accepted_lines form ++ tally_lines (announced_votes r)) (form_unnumbered r ne)

  -- "Otherwise `REFUSED`, a space and the number"
  pub page_refused : length r ≤ 65536 → (k : ℕ) → judged true r ≡ refused k → page r ≡ refused_word ++ (decimal k ++ (10 ∷ []))
  unfolding page
  page_refused h k e =
      let t : at_most (length r) 65536 ≡ true = is_at_most h in
      let z : number_of (first_fault true r) ≡ k = refused_number true r k e in
      rw (t, z) (refused_page k (parameters_of r).form (announced_votes r) (refused_some true r k e))

  -- "a longer input gives `TOO LONG`"
  pub page_too_long : 65536 < length r → page r ≡ too_long_word ++ (10 ∷ [])
  unfolding page
  page_too_long h = let t : at_most (length r) 65536 ≡ false = not_at_most h in rw t

-- ---- the announced votes

-- they are handed out exactly of a record that plain judging accepts, into an output of n numbers
pub announced_iff : (r : List ℕ) (out_long : ℕ) → (announced_refusal r out_long ≡ 0) ↔ ((judged false r ≡ accepted) × (out_long ≡ (parameters_of r).ballots))
unfolding announced_refusal judged answer_of choose
announced_iff r out_long = go (number_of (first_fault false r))
  where
    go : (k : ℕ) → (choose k (rule 18 (equal out_long (parameters_of r).ballots) 0) k ≡ 0) ↔ ((answer_of k [] ≡ done []) × (out_long ≡ (parameters_of r).ballots))
    go zero = (
      λ e. (refl, (equal_iff out_long (parameters_of r).ballots).0 ((rule_kept 18 (equal out_long (parameters_of r).ballots) 0 refl).0 e).0),
      λ h. (rule_kept 18 (equal out_long (parameters_of r).ballots) 0 refl).1 ((equal_iff out_long (parameters_of r).ballots).1 h.1, refl),
    )
    go (suc k) = (λ e. absurd (omega arith), λ h. number_done (suc k) [] [] h.0)

-- ---- the draw

module _ (s : Slices) (dice : List ℕ) (one_long out_long : ℕ) (h : part_two_drawn_refusal s dice one_long out_long ≡ 0) where
  long : length (first_part s) ≡ part_one_length s.parameters
  unfolding first_part posted_board inputs_of
  long = length_part_one (posted_board (inputs_of s)) (λ j q lj lq. length_commitment _ _ _) (λ l i q ll li lq. length_commitment _ _ _)

  draw_unrefused : draw_refusal s.parameters dice (length (first_part s)) ≡ 0
  unfolding draw_refusal part_two_drawn_refusal in_limits modulus_in_limits ballots_in_limits lists_in_limits
  draw_unrefused =
      let u = unrefused s _ _ _ _ h in
      let d = simp rules at u.lengths_due in
      simp rules (
        ((u.modulus_low, u.modulus_high), ((u.ballots_low, u.ballots_high), (u.compared_low, u.compared_high))),
        ((d.0, long), (u.fair_dice, refl)),
      )

  -- the mask drawn by itself is the one that part two is written with
  pub draw_is : drawn s.parameters dice (first_part s) ≡ done (mask_for s dice (first_part s) ∷ [])
  unfolding drawn answer_of mask_for
  draw_is = rw draw_unrefused
