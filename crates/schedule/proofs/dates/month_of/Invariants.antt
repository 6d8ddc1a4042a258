-- `schedule::dates::month_of` meets its contract: the day is not before the month reached.
use Rattle.schedule.proofs.Located.{InYear}
use Rattle.schedule.proofs.dates.month_of.Given as goal

abbrev pub invariant-loop-month : goal.invariant-loop-month
invariant-loop-month l = InYear l.year l.day l.month
