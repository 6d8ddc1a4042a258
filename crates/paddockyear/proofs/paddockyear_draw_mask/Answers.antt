-- `paddockyear::paddockyear_draw_mask` meets its contract, case by case.
use mathlib.Core.Path.{ap, ◌∙◌}
use Rattle.protocol.specs.Answers.{refused}
use Rattle.protocol.specs.Results.{drawn}
use Rattle.paddockyear.specs.Codes.{refused_one, done_one}
use Rattle.paddockyear.proofs.paddockyear_draw_mask.Goals as goal

pub returns-in-Ok : goal.returns-in-Ok
unfolding drawn
returns-in-Ok c = done_one _ _ _ _ (rw c.parameters-parameters.ensures at c.in-Ok.ensures)

pub returns-in-Err : goal.returns-in-Err
unfolding drawn
returns-in-Err c = refused_one _ _ _ _ (ap refused c.number.ensures.0 ∙ rw c.parameters-parameters.ensures at c.in-Err.ensures)
