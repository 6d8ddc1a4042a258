-- `schedule::dates::days_before_year` meets its contract.
use native.Mathlib.Omega.{arith}
use Rattle.schedule.proofs.Lengths.{years_days, years_most}
use Rattle.schedule.proofs.dates.days_before_year.Goals as goal

pub returns : goal.returns
returns c = (years_days _ (omega arith), years_most _ (omega arith))
