-- `schedule::plan_on` meets its contract: behind the holidays that were met the days are right for these.
use mathlib.Core.Path.{sym, ap, ◌∙◌}
use native.Mathlib.Omega.{arith}
use Rattle.laws.specs.Tests.{told_true, told_false}
use Rattle.schedule.specs.Dates.{exists, day_number}
use Rattle.schedule.specs.Working.{holiday}
use Rattle.schedule.proofs.Passing.{none_passed, one_passed, refused_missing, refused_late, all_passed}
use Rattle.schedule.proofs.plan_on.Goals as goal

pub from_next-s-requires : goal.from_next-s-requires
from_next-s-requires c = omega (arith, c.weekday_from.ensures.1)

pub loop-number-init : goal.loop-number-init
loop-number-init c = rw (c.from_next-s.ensures, c.weekday_from.ensures.0) (none_passed _ _)

pub returns-then-not-exists : goal.returns-then-not-exists
returns-then-not-exists c =
    let test = told_false c.exists.ensures c.if-not-exists.true in
    refused_missing _ _ _ (omega arith) (sym (ap exists c.date_in-date.ensures) ∙ test)

pub day_number-holiday-requires : goal.day_number-holiday-requires
day_number-holiday-requires c = told_true c.exists.ensures c.if-not-exists.false

pub returns-then-holiday-least : goal.returns-then-holiday-least
unfolding holiday
returns-then-holiday-least c =
    let is = c.date_in-date.ensures in
    refused_late _ _ c.loop-number.invariant (omega arith) (sym (ap exists is) ∙ told_true c.exists.ensures c.if-not-exists.false)
    (c.day_number-holiday.ensures.0 ∙ ap day_number is) c.if-holiday-least.true

pub loop-number-preserved : goal.loop-number-preserved
unfolding holiday
loop-number-preserved c =
    let is = c.date_in-date.ensures in
    rw c.move_days-s.ensures
    (one_passed _ _ c.loop-number.invariant (omega arith) (sym (ap exists is) ∙ told_true c.exists.ensures c.if-not-exists.false)
    (c.day_number-holiday.ensures.0 ∙ ap day_number is) (omega arith))

pub returns : goal.returns
returns c = all_passed _ _ c.loop-number.invariant (omega arith)
