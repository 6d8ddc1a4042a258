-- `schedule::hours` meets its contract.
use Rattle.schedule.specs.Windows.{window}
use Rattle.schedule.proofs.hours.Goals as goal

pub returns : goal.returns
unfolding window
returns c = rw (c.minute_of.ensures, c.minute_of-2.ensures)
