-- `schedule::dates::is_leap` meets its contract.
use mathlib.Core.Path.{refl, ◌∙◌}
use Rattle.laws.specs.Tests.{differ, is_equal, not_equal, equal_is, and_go, and_stop, or_go, or_stop}
use Rattle.schedule.specs.Dates.{leap}
use Rattle.schedule.proofs.dates.is_leap.Goals as goal

pub returns-then-year-eq0 : goal.returns-then-year-eq0
unfolding leap
returns-then-year-eq0 c = let e = is_equal c.if-year-eq0.true in equal_is _ _ ∙ e ∙ or_stop _ _ e

pub returns-then-year-eq0-2 : goal.returns-then-year-eq0-2
unfolding leap differ
returns-then-year-eq0-2 c = or_go _ _ (not_equal c.if-year-eq0.false) (and_go _ _ (is_equal c.if-year-eq0-2.true) refl)

pub returns-else-year-eq0-2 : goal.returns-else-year-eq0-2
unfolding leap
returns-else-year-eq0-2 c =
    let e = not_equal c.if-year-eq0-2.false in
    equal_is _ _ ∙ e ∙ or_go _ _ (not_equal c.if-year-eq0.false) (and_stop _ _ e)
