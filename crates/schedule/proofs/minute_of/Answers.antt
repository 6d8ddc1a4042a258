-- `schedule::minute_of` meets its contract.
use mathlib.Core.Path.{refl}
use Rattle.schedule.specs.Windows.{minute_of}
use Rattle.schedule.proofs.minute_of.Goals as goal

pub returns : goal.returns
unfolding minute_of
returns c = refl
