-- `schedule::is_inside` meets its contract.
use Rattle.schedule.specs.Windows.{inside}
use Rattle.schedule.proofs.Ranges.{in_range}
use Rattle.schedule.proofs.is_inside.Goals as goal

pub returns : goal.returns
unfolding inside
returns c = in_range _ _ _ c.contains.ensures.value
