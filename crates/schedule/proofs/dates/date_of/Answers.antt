-- `schedule::dates::date_of` meets its contract: the year has the day, and the month has what is left of it.
use native.Mathlib.Omega.{arith}
use Rattle.schedule.proofs.Located.{year_from, year_to, month_from, date_is}
use Rattle.schedule.proofs.dates.date_of.Goals as goal

pub overflow_sub-rest : goal.overflow_sub-rest
overflow_sub-rest c = year_from (omega arith) c.year_of-year.ensures.0 c.days_before_year.ensures.0

pub month_of-month-requires : goal.month_of-month-requires
month_of-month-requires c = year_to (omega arith) c.year_of-year.ensures.0 c.days_before_year.ensures.0

pub overflow_sub-result : goal.overflow_sub-result
overflow_sub-result c =
    month_from (omega arith) c.year_of-year.ensures.0 c.days_before_year.ensures.0
    c.month_of-month.ensures.0 c.days_before_month.ensures.0

pub returns : goal.returns
returns c =
    date_is (omega arith) c.year_of-year.ensures.0 c.days_before_year.ensures.0
    c.month_of-month.ensures.0 c.days_before_month.ensures.0
