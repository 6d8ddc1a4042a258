-- The two forms of the first command: document 02, item 4, "Command 0C (hexadecimal) may stand first in place of 01". Which form a record
-- has; that with 01 every place and length is document 01's own formula, and with 0C it is 4 more; that every record but those that begin
-- with 0C is judged as document 01 judges it; and that the three records of demand 3 share the first command whole.
use mathlib.Core.Path.{◌≡◌, refl, sym, ap, ◌∙◌}
use mathlib.Core.Logic.{◌≢◌, ◌⊎◌, inl, inr}
use mathlib.Core.Bool.{Bool}
use mathlib.Core.List.{List, [], ◌∷◌}
use Prim.Native.Nat.{ℕ, ◌+◌, ◌*◌, ◌<◌}
use native.Mathlib.Omega.{arith}
use lib.ListN.{length, take}
use Rattle.laws.specs.Faults.{Fault}
use Rattle.laws.specs.Bytes.{number}
use Rattle.laws.specs.Tests.{is_below, is_equal, not_equal}
use Rattle.laws.specs.Faults.{located, number_of, nothing_fault, rule_go, rule_stop, located_at, then_stop}
use Rattle.protocol.specs.declared.Form.{Form}
use Rattle.protocol.specs.declared.Form.TheVariants.{Unnumbered, Numbered}
use Rattle.protocol.specs.declared.Parameters.{Parameters}
use Rattle.protocol.specs.declared.Due.TheVariants.{First}
use Rattle.protocol.specs.Answers.{answer_of}
use Rattle.protocol.specs.Terms.{parameters, item}
use Rattle.protocol.specs.Layout.{first_code, number_width, first_width, at_ballot, at_entry, at_first_dice, at_link, at_second_dice, at_ballot_half, at_list_half, at_vote, at_full_opening, at_end, record_length, part_one_length, part_two_length, part_three_length}
use Rattle.protocol.specs.Record.{form_of, parameters_in, parameters_of}
use Rattle.protocol.specs.Rules.{in_command, rules, fault_with}
use Rattle.protocol.specs.Judging.{found, found_with, first_fault, judged, first_fault_in, judged_in}
use Rattle.protocol.specs.Demand3.{before_first_dice, Triple}
use Rattle.protocol.proofs.Alike.{parameters_alike, take_less, first_low}

-- ---- which form a record has

module _ (r : List ℕ) where
  pub form_numbered : item r 0 ≡ 0x0C → form_of r ≡ Numbered (number r 1 4)
  unfolding form_of
  form_numbered e = rw (is_equal e)

  pub form_unnumbered : item r 0 ≢ 0x0C → form_of r ≡ Unnumbered
  unfolding form_of
  form_unnumbered ne = rw (not_equal ne)

  -- its first byte is that of its form, unless it is neither 01 nor 0C
  pub code_numbered : item r 0 ≡ 0x0C → first_code (form_of r) ≡ 0x0C
  unfolding first_code
  code_numbered e = ap first_code (form_numbered e)

  pub code_unnumbered : item r 0 ≢ 0x0C → first_code (form_of r) ≡ 0x01
  unfolding first_code
  code_unnumbered ne = ap first_code (form_unnumbered ne)

-- where there is no byte, 01 is due
pub code_none : (r : List ℕ) → length r ≡ 0 → first_code (form_of r) ≡ 0x01
code_none [] e = code_unnumbered [] (λ z. omega (arith, z))
code_none (x ∷ r) e = absurd (omega (arith, e))

-- the byte decides the width
pub code_width : (a b : Form) → first_code a ≡ first_code b → number_width a ≡ number_width b
unfolding first_code number_width
code_width Unnumbered Unnumbered e = refl
code_width Unnumbered (Numbered y) e = absurd (omega arith)
code_width (Numbered x) Unnumbered e = absurd (omega arith)
code_width (Numbered x) (Numbered y) e = refl

pub code_is : (form : Form) → (first_code form ≡ 0x01) ⊎ (first_code form ≡ 0x0C)
unfolding first_code
code_is Unnumbered = inl refl
code_is (Numbered x) = inr refl

-- ---- places and lengths

-- with 01: the formulas of document 01
pub record Plain (p : Parameters) : Type 0 where
  pub ballot : (j : ℕ) → at_ballot p j ≡ 8 + 197 * j
  pub entry : (l i : ℕ) → at_entry p l i ≡ 8 + 197 * p.ballots + 196 * (l * p.ballots + i)
  pub first_dice : at_first_dice p ≡ 8 + 197 * p.ballots + 392 * (p.compared * p.ballots)
  pub link : (c j : ℕ) → at_link p c j ≡ 43 + 197 * p.ballots + 392 * (p.compared * p.ballots) + 10 * (c * p.ballots + j)
  pub second_dice : at_second_dice p ≡ 43 + 197 * p.ballots + 402 * (p.compared * p.ballots)
  pub ballot_half : (j : ℕ) → at_ballot_half p j ≡ 74 + 197 * p.ballots + 402 * (p.compared * p.ballots) + 112 * (j * (p.compared + 1))
  pub list_half : (j c : ℕ)
      → at_list_half p j c ≡ 186 + 197 * p.ballots + 402 * (p.compared * p.ballots) + 112 * (j * (p.compared + 1)) + 112 * c
  pub vote : (i : ℕ) → at_vote p i ≡ 74 + 309 * p.ballots + 514 * (p.compared * p.ballots) + 7 * i
  pub full_opening : (c i : ℕ) → at_full_opening p c i ≡ 74 + 316 * p.ballots + 514 * (p.compared * p.ballots) + 220 * (c * p.ballots + i)
  pub end : at_end p ≡ 74 + 316 * p.ballots + 734 * (p.compared * p.ballots)
  pub whole : record_length p ≡ 75 + 316 * p.ballots + 734 * (p.compared * p.ballots)
  pub part_one : part_one_length p ≡ 8 + 197 * p.ballots + 392 * (p.compared * p.ballots)

pub plain : (p : Parameters) → p.form ≡ Unnumbered → Plain p
unfolding at_end at_full_opening at_vote at_list_half at_ballot_half at_second_dice at_link at_first_dice at_entry at_ballot number_width
plain p e =
    let w : number_width p.form ≡ 0 = ap number_width e in
    record {
      ballot = λ j. omega (arith, w);
      entry = λ l i. omega (arith, w);
      first_dice = omega (arith, w);
      link = λ c j. omega (arith, w);
      second_dice = omega (arith, w);
      ballot_half = λ j. omega (arith, w);
      list_half = λ j c. omega (arith, w);
      vote = λ i. omega (arith, w);
      full_opening = λ c i. omega (arith, w);
      end = omega (arith, w);
      whole = omega (arith, w);
      part_one = omega (arith, w);
    }

-- with 0C: 4 more than with 01, all but the lengths of parts two and three
pub record Moved (p q : Parameters) : Type 0 where
  pub ballot : (j : ℕ) → at_ballot p j ≡ 4 + at_ballot q j
  pub entry : (l i : ℕ) → at_entry p l i ≡ 4 + at_entry q l i
  pub first_dice : at_first_dice p ≡ 4 + at_first_dice q
  pub link : (c j : ℕ) → at_link p c j ≡ 4 + at_link q c j
  pub second_dice : at_second_dice p ≡ 4 + at_second_dice q
  pub ballot_half : (j : ℕ) → at_ballot_half p j ≡ 4 + at_ballot_half q j
  pub list_half : (j c : ℕ) → at_list_half p j c ≡ 4 + at_list_half q j c
  pub vote : (i : ℕ) → at_vote p i ≡ 4 + at_vote q i
  pub full_opening : (c i : ℕ) → at_full_opening p c i ≡ 4 + at_full_opening q c i
  pub end : at_end p ≡ 4 + at_end q
  pub whole : record_length p ≡ 4 + record_length q
  pub part_one : part_one_length p ≡ 4 + part_one_length q
  pub part_two : part_two_length p ≡ part_two_length q
  pub part_three : part_three_length p ≡ part_three_length q

pub moved : (election M n m : ℕ) → Moved (parameters (Numbered election) M n m) (parameters Unnumbered M n m)
unfolding part_three_length at_end at_full_opening at_vote at_list_half at_ballot_half at_second_dice at_link at_first_dice at_entry at_ballot number_width
moved election M n m = record {
  ballot = λ j. omega arith;
  entry = λ l i. omega arith;
  first_dice = omega arith;
  link = λ c j. omega arith;
  second_dice = omega arith;
  ballot_half = λ j. omega arith;
  list_half = λ j c. omega arith;
  vote = λ i. omega arith;
  full_opening = λ c i. omega arith;
  end = omega arith;
  whole = omega arith;
  part_one = omega arith;
  part_two = refl;
  part_three = refl;
}

-- ---- stored records: whatever does not begin with 0C is judged as by document 01, which knows 01 alone

module _ (drawn : Bool) (r : List ℕ) where
  -- every record is judged in its own form
  pub own_form : first_fault drawn r ≡ first_fault_in (form_of r) drawn r
  unfolding first_fault first_fault_in parameters_of
  own_form = refl

  pub stored_fault : item r 0 ≢ 0x0C → first_fault drawn r ≡ first_fault_in Unnumbered drawn r
  stored_fault ne = own_form ∙ ap (λ form. first_fault_in form drawn r) (form_unnumbered r ne)

  pub stored_verdict : item r 0 ≢ 0x0C → judged drawn r ≡ judged_in Unnumbered drawn r
  unfolding judged judged_in
  stored_verdict ne = ap (λ f. answer_of (number_of f) []) (stored_fault ne)

  -- and what begins with 0C was no record: 2, at the first byte
  pub numbered_before : 0 < length r → item r 0 ≡ 0x0C → first_fault_in Unnumbered drawn r ≡ Fault 2 0
  unfolding first_fault_in found_with fault_with first_code
  numbered_before some e =
      let p = parameters_in Unnumbered r in
      let other : item r 0 ≢ 0x01 = λ z. omega (arith, e, z) in
      let two : 2 ≡ in_command p r First (rules p r drawn First) = rule_go 1 _ _ (is_below some) (rule_stop 2 _ _ (not_equal other)) in
      let f : Fault 2 0 ≡ found drawn p r First = located_at 0 2 (λ z. omega arith) ∙ ap (located 0) two in
      then_stop _ _ (λ z. nothing_fault z (sym f)) ∙ sym f

-- ---- "Triples of records under 3 of the briefing share the first command whole."

module _ {r₁ r₂ r₃ : List ℕ} (t : Triple r₁ r₂ r₃) where
  -- a record of one form and one of the other are never together
  pub parameters_shared : (parameters_of r₁ ≡ parameters_of r₂) × (parameters_of r₁ ≡ parameters_of r₃)
  parameters_shared = (parameters_alike r₁ r₂ t.alike₂, parameters_alike r₁ r₃ t.alike₃)

  first_of : (s : List ℕ) → before_first_dice r₁ ≡ before_first_dice s → take (first_width (parameters_of r₁)) r₁ ≡ take (first_width (parameters_of r₁)) s
  first_of s e =
      let p = parameters_of r₁ in
      take_less r₁ s (at_first_dice p) (at_first_dice (parameters_of s)) (first_width p) e (first_low p) (rw (parameters_alike r₁ s e) (first_low (parameters_of s)))

  pub first_command_shared : (take (first_width (parameters_of r₁)) r₁ ≡ take (first_width (parameters_of r₁)) r₂)
      × (take (first_width (parameters_of r₁)) r₁ ≡ take (first_width (parameters_of r₁)) r₃)
  first_command_shared = (first_of r₂ t.alike₂, first_of r₃ t.alike₃)
