-- `schedule::from_second` meets its contract.
use mathlib.Core.Path.{refl}
use Rattle.schedule.specs.Told.{from_second}
use Rattle.schedule.proofs.from_second.Goals as goal

pub returns : goal.returns
unfolding from_second
returns c = refl
