-- `schedule::move_days` meets its contract.
use mathlib.Core.Path.{ap, ◌∙◌}
use native.Mathlib.Omega.{arith}
use Rattle.laws.specs.Tests.{is_equal, not_equal}
use Rattle.schedule.specs.Told.{from_next, from_first, from_second, moved}
use Rattle.schedule.proofs.move_days.Goals as goal

pub from_next-requires : goal.from_next-requires
from_next-requires c = omega (arith, c.weekday_from-after.ensures.1)

pub returns-then-holiday-s : goal.returns-then-holiday-s
unfolding moved
returns-then-holiday-s c = c.from_next.ensures ∙ rw (is_equal c.if-holiday-s.true) (ap from_next c.weekday_from-after.ensures.0)

pub from_first-requires : goal.from_first-requires
from_first-requires c = omega (arith, c.weekday_from-after.ensures.1)

pub returns-then-holiday-s-2 : goal.returns-then-holiday-s-2
unfolding moved
returns-then-holiday-s-2 c =
    let after = c.weekday_from-after.ensures.0 in
    c.from_first.ensures ∙ rw (not_equal c.if-holiday-s.false, is_equal c.if-holiday-s-2.true) (ap (from_first _) after)

pub from_second-requires : goal.from_second-requires
from_second-requires c = omega (arith, c.weekday_from-after.ensures.1)

pub returns-then-holiday-s-3 : goal.returns-then-holiday-s-3
unfolding moved
returns-then-holiday-s-3 c =
    let after = c.weekday_from-after.ensures.0 in
    c.from_second.ensures
    ∙ rw (not_equal c.if-holiday-s.false, not_equal c.if-holiday-s-2.false, is_equal c.if-holiday-s-3.true) (ap (from_second _ _) after)

pub returns-then-holiday-s-4 : goal.returns-then-holiday-s-4
unfolding moved
returns-then-holiday-s-4 c =
    let after = c.weekday_from-after.ensures.0 in
    rw (not_equal c.if-holiday-s.false, not_equal c.if-holiday-s-2.false, not_equal c.if-holiday-s-3.false, is_equal c.if-holiday-s-4.true, after)

pub returns-else-holiday-s-4 : goal.returns-else-holiday-s-4
unfolding moved
returns-else-holiday-s-4 c =
    rw (not_equal c.if-holiday-s.false, not_equal c.if-holiday-s-2.false, not_equal c.if-holiday-s-3.false, not_equal c.if-holiday-s-4.false)
