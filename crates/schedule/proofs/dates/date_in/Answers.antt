-- `schedule::dates::date_in` meets its contract.
use mathlib.Core.Path.{refl}
use Rattle.schedule.specs.Dates.{date_in}
use Rattle.schedule.proofs.dates.date_in.Goals as goal

pub returns : goal.returns
unfolding date_in
returns c = refl
