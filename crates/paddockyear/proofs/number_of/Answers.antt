-- `paddockyear::number_of` meets its contract, case by case.
use mathlib.Core.Path.{sym, ap, ◌∙◌}
use Rattle.std.specs.Prelude.{Result, ⊤}
use Rattle.laws.specs.Faults.{number_of}
use Rattle.protocol.specs.declared.Fault as code
use Rattle.protocol.specs.Answers.{found_in}
use Rattle.paddockyear.proofs.number_of.Goals as goal

pub returns-in-Ok : goal.returns-in-Ok
unfolding number_of
returns-in-Ok c = sym (ap (λ (r : Result ⊤ code.Fault). number_of (found_in r)) c.in-Ok.is)

pub returns-in-Err : goal.returns-in-Err
unfolding number_of
returns-in-Err c = c.number.ensures.0 ∙ sym (ap (λ (r : Result ⊤ code.Fault). number_of (found_in r)) c.in-Err.is)
