-- `schedule::dates::year_of` meets its contract: the day is not before the year reached.
use Rattle.schedule.proofs.Located.{Reached}
use Rattle.schedule.proofs.dates.year_of.Given as goal

abbrev pub invariant-loop-year : goal.invariant-loop-year
invariant-loop-year l = Reached l.day l.year
