-- `paddockyear::written_code` meets its contract, case by case.
use mathlib.Core.Path.{sym, ap, ◌∙◌}
use Rattle.std.specs.Prelude.{Result, ⊤}
use Rattle.protocol.specs.declared.Rule.{Rule}
use Rattle.protocol.specs.Answers.{written_answer}
use Rattle.paddockyear.specs.Codes.{code_of}
use Rattle.paddockyear.proofs.written_code.Goals as goal

pub returns-in-Ok : goal.returns-in-Ok
unfolding code_of
returns-in-Ok c = sym (ap (λ (w : Result ⊤ Rule). code_of (written_answer w)) c.in-Ok.is)

pub returns-in-Err : goal.returns-in-Err
unfolding code_of
returns-in-Err c = c.number.ensures.0 ∙ sym (ap (λ (w : Result ⊤ Rule). code_of (written_answer w)) c.in-Err.is)
