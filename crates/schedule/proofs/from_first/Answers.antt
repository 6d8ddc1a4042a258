-- `schedule::from_first` meets its contract.
use mathlib.Core.Path.{ap, ◌∙◌}
use Rattle.schedule.specs.Told.{from_second, from_first}
use Rattle.schedule.proofs.from_first.Goals as goal

pub returns : goal.returns
unfolding from_first
returns c = c.from_second.ensures ∙ ap (from_second _ _) c.weekday_from.ensures.0
