-- Parameters that are the record's, and the verdict by the first fault.
use mathlib.Core.Path.{◌≡◌, refl, ap}
use mathlib.Core.Bool.{Bool}
use mathlib.Core.List.{List, []}
use Prim.Native.Nat.{ℕ}
use Rattle.std.specs.Prelude.{Ok, Err, ⊤}
use Rattle.laws.specs.Faults.{Found, Nothing, Fault}
use Rattle.laws.specs.Faults.{◌then◌, number_of}
use Rattle.protocol.specs.declared.Parameters.{Parameters}
use Rattle.protocol.specs.declared.Due.TheVariants.{First}
use Rattle.protocol.specs.declared.Rule.{Rule}
use Rattle.protocol.specs.Answers.{rule_number, verdict_answer}
use Rattle.protocol.specs.Layout.{first_code}
use Rattle.protocol.specs.Record.{form_of, parameters_of}
use Rattle.protocol.specs.Rules.{fault_with}
use Rattle.protocol.specs.Judging.{found, found_with, ballot_faults, part_one_faults, part_two_faults, part_three_faults, first_fault, judged}
use Rattle.protocol.proofs.Answered.{rule_positive, done_is}
use Rattle.protocol.proofs.Answered as answers
use Rattle.protocol.proofs.Forms.{code_width}

-- the first command's rule is the same for all parameters in whose form it has the byte of the record's own
pub first_alike : (drawn : Bool) (p : Parameters) (r : List ℕ) → first_code p.form ≡ first_code (form_of r)
    → found drawn p r First ≡ found drawn (parameters_of r) r First
unfolding found_with fault_with parameters_of
first_alike drawn p r e = rw (e, code_width p.form (form_of r) e)

-- ---- parameters that are the record's

module _ (drawn : Bool) (r : List ℕ) where
  pub ballots_alike : {p q : Parameters} {g : Found} → p ≡ q → g ≡ ballot_faults drawn p r p.ballots → g ≡ ballot_faults drawn q r q.ballots
  ballots_alike e h = rw e at h

  pub rest_alike : {p q : Parameters} {g : Found} → p ≡ q → g ≡ part_one_faults drawn p r then (part_two_faults drawn p r then part_three_faults drawn p r)
      → g ≡ part_one_faults drawn q r then (part_two_faults drawn q r then part_three_faults drawn q r)
  rest_alike e h = rw e at h

  -- ---- the verdict

  pub accepted_is : {u : ⊤} → Nothing ≡ first_fault drawn r → verdict_answer (Ok u) ≡ judged drawn r
  unfolding judged number_of
  accepted_is e = done_is 0 _ [] (ap number_of e) refl

  pub refused_is : (rule : Rule) {at : ℕ} → Fault (rule_number rule) at ≡ first_fault drawn r → verdict_answer (Err rule) ≡ judged drawn r
  unfolding judged number_of
  refused_is rule e = answers.refused_is (rule_number rule) _ [] (ap number_of e) (rule_positive rule)
