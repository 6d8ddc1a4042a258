-- `schedule::window_at` meets its contract: a minute is answered by the numbers of the other entry.
use mathlib.Core.Path.{ap, ◌∙◌}
use Rattle.schedule.specs.Windows.{minute_answer}
use Rattle.schedule.proofs.Answering.{passed_on, minute_set, minute_refused}
use Rattle.schedule.proofs.window_at.Goals as goal

pub returns : goal.returns
returns c = minute_set _ _ _ _ c.in_ok-windows.ensures c.window_of.ensures

pub returns-in_err-windows : goal.returns-in_err-windows
returns-in_err-windows c = ap minute_answer (passed_on c.from_residual.ensures.1) ∙ minute_refused _ _ _ c.in_err-windows.ensures
