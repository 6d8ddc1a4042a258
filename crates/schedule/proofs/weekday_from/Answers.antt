-- `schedule::weekday_from` meets its contract.
use native.Mathlib.Omega.{arith}
use Rattle.laws.specs.Tests.{is_below, not_below}
use Rattle.schedule.specs.Working.{weekday}
use Rattle.schedule.specs.Told.{weekday_from}
use Rattle.schedule.proofs.weekday_from.Goals as goal

pub returns-then-w-lt5 : goal.returns-then-w-lt5
unfolding weekday_from weekday
returns-then-w-lt5 c = (rw (is_below c.if-w-lt5.true), omega arith)

pub returns-else-w-lt5 : goal.returns-else-w-lt5
unfolding weekday_from weekday
returns-else-w-lt5 c = (rw (not_below c.if-w-lt5.false), omega arith)
