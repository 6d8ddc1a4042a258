-- `paddockyear::outcome_code` meets its contract, case by case.
use mathlib.Core.Path.{◌≡◌, sym, ap, ◌∙◌}
use Rattle.std.specs.Prelude.{Result, Ok, Err, ⊤}
use Rattle.election.specs.declared.Failure.{Failure}
use Rattle.paddockyear.specs.Codes.{outcome_code}
use Rattle.paddockyear.proofs.outcome_code.Goals as goal

failed : {held : Result ⊤ Failure} {e f : Failure} → held ≡ Err e → e ≡ f → outcome_code (Err f) ≡ outcome_code held
failed {held} {e} {f} is same = sym (ap outcome_code is ∙ ap (λ (x : Failure). outcome_code (Err x)) same)

pub returns-in-Ok : goal.returns-in-Ok
unfolding outcome_code
returns-in-Ok c = sym (ap outcome_code c.in-Ok.is)

pub returns-in-Err-Refused : goal.returns-in-Err-Refused
unfolding outcome_code
returns-in-Err-Refused c = c.number.ensures.0 ∙ failed c.in-Err-Refused.is (rw c.in-Err-Refused.is at c.in-Err-Refused.field-0-is)

pub returns-in-Err-Rejected : goal.returns-in-Err-Rejected
unfolding outcome_code
returns-in-Err-Rejected c = c.number-in-Err-Rejected.ensures.0 ∙ failed c.in-Err-Rejected.is (rw c.in-Err-Rejected.is at c.in-Err-Rejected.field-0-is)
