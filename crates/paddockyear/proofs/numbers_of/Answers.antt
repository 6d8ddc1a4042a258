-- `paddockyear::numbers_of` meets its contract: the definition lists the same eight.
use mathlib.Core.Path.{refl}
use Rattle.schedule.specs.Windows.{numbers}
use Rattle.paddockyear.proofs.numbers_of.Goals as goal

pub returns : goal.returns
unfolding numbers
returns c = refl
