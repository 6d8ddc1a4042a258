-- `schedule::windows_on` meets its contract.
use Rattle.schedule.specs.Windows.{windows_on}
use Rattle.schedule.proofs.windows_on.Goals as goal

pub returns : goal.returns
unfolding windows_on
returns c =
    rw (c.hours.ensures, c.hours-2.ensures, c.hours-3.ensures, c.hours-4.ensures)
