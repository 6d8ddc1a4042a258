-- `schedule::dates::year_of` meets its contract: the day is not before the year reached.
use native.Mathlib.Omega.{arith}
use Rattle.schedule.proofs.Located.{first_year, next_year, this_year, last_year}
use Rattle.schedule.proofs.dates.year_of.Goals as goal

pub loop-year-init : goal.loop-year-init
loop-year-init c = first_year _

pub returns-then-day-days_before_year : goal.returns-then-day-days_before_year
returns-then-day-days_before_year c =
    let at = c.loop-year.invariant in
    (this_year at c.days_before_year.ensures.0 (omega arith), (at.low, at.high))

pub loop-year-preserved : goal.loop-year-preserved
loop-year-preserved c = next_year c.loop-year.invariant c.days_before_year.ensures.0 (omega arith) (omega arith)

pub returns : goal.returns
returns c = (last_year c.loop-year.invariant (omega arith), (omega arith, omega arith))
