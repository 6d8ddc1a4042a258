-- `schedule::from_next` meets its contract.
use mathlib.Core.Path.{ap, ◌∙◌}
use Rattle.schedule.specs.Told.{from_first, from_next}
use Rattle.schedule.proofs.from_next.Goals as goal

pub returns : goal.returns
unfolding from_next
returns c = c.from_first.ensures ∙ ap (from_first _) c.weekday_from.ensures.0
