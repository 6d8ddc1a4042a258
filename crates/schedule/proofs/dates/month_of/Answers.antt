-- `schedule::dates::month_of` meets its contract: the day is not before the month reached.
use native.Mathlib.Omega.{arith}
use Rattle.schedule.proofs.Located.{first_month, last_month, this_month, next_month}
use Rattle.schedule.proofs.dates.month_of.Goals as goal

pub loop-month-init : goal.loop-month-init
loop-month-init c = first_month _ _

pub returns-then-day-days_before_month : goal.returns-then-day-days_before_month
returns-then-day-days_before_month c =
    let at = c.loop-month.invariant in
    (this_month at c.days_before_month.ensures.0 (omega arith), (at.first, at.last))

pub loop-month-preserved : goal.loop-month-preserved
loop-month-preserved c = next_month c.loop-month.invariant c.days_before_month.ensures.0 (omega arith) (omega arith)

pub returns : goal.returns
returns c = (last_month c.loop-month.invariant (omega arith), (omega arith, omega arith))
