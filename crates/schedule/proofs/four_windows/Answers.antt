-- `schedule::four_windows` meets its contract.
use mathlib.Core.Path.{ap, ◌∙◌}
use Rattle.schedule.specs.Windows.{schedule_answer}
use Rattle.schedule.proofs.Answering.{on_is, passed_on, windows_set, windows_refused}
use Rattle.schedule.proofs.four_windows.Goals as goal

pub day_number-requires : goal.day_number-requires
day_number-requires c = (on_is _ _ _ c.in_ok-days.ensures).dated

pub returns : goal.returns
returns c = windows_set _ _ c.in_ok-days.ensures c.day_number.ensures.0 c.windows_on.ensures

pub returns-in_err-days : goal.returns-in_err-days
returns-in_err-days c = ap schedule_answer (passed_on c.from_residual.ensures.1) ∙ windows_refused _ _ c.in_err-days.ensures
