-- `schedule::dates::day_number` meets its contract.
use native.Mathlib.Omega.{arith}
use Rattle.schedule.proofs.Dating.{exists_is, exists_below, number_sum}
use Rattle.schedule.proofs.dates.day_number.Goals as goal

pub days_before_year-requires : goal.days_before_year-requires
days_before_year-requires c = let (high, v) = exists_is _ c.requires in (v.low, omega (arith, high))

pub days_before_month-requires : goal.days_before_month-requires
days_before_month-requires c = let (high, v) = exists_is _ c.requires in (v.first, v.last)

pub overflow_sub-result : goal.overflow_sub-result
overflow_sub-result c = let (high, v) = exists_is _ c.requires in v.from

pub overflow_add-result : goal.overflow_add-result
overflow_add-result c =
    let t = c.args.date in
    omega (arith, number_sum t c.days_before_year.ensures.0 c.days_before_month.ensures.0, exists_below t c.requires)

pub overflow_add-result-2 : goal.overflow_add-result-2
overflow_add-result-2 c =
    let t = c.args.date in
    omega (arith, number_sum t c.days_before_year.ensures.0 c.days_before_month.ensures.0, exists_below t c.requires)

pub returns : goal.returns
returns c =
    let t = c.args.date in
    let sum = number_sum t c.days_before_year.ensures.0 c.days_before_month.ensures.0 in
    (sum, omega (arith, sum, exists_below t c.requires))
