-- `schedule::plan_on` meets its contract: behind the holidays that were met the days are right for these.
use Rattle.schedule.proofs.Passing.{Passed}
use Rattle.schedule.proofs.plan_on.Given as goal

abbrev pub invariant-loop-number : goal.invariant-loop-number
invariant-loop-number l = Passed l.holidays l.day l.s l.least l.number-index
