-- `schedule::dates::leap_day` meets its contract.
use native.Mathlib.Omega.{arith}
use Rattle.std.proofs.lemmas.Grind.{common_steps}
use Rattle.schedule.proofs.dates.leap_day.Goals as goal

pub returns : goal.returns
returns c = grind (arith, common_steps)
