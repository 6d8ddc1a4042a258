-- `paddockyear::paddockyear_calendar` meets its contract, case by case.
use mathlib.Core.Path.{ap, ◌∙◌}
use Rattle.protocol.specs.Answers.{done, refused}
use Rattle.schedule.specs.Windows.{scheduled}
use Rattle.paddockyear.specs.Codes.{refused_all, done_all}
use Rattle.paddockyear.proofs.paddockyear_calendar.Goals as goal

pub returns-in-Ok : goal.returns-in-Ok
unfolding scheduled
returns-in-Ok c = done_all _ _ _ _ (ap done c.numbers_of.ensures ∙ c.in-Ok.ensures)

pub returns-in-Err : goal.returns-in-Err
unfolding scheduled
returns-in-Err c = refused_all _ _ _ _ (ap refused c.number.ensures.0 ∙ c.in-Err.ensures)
