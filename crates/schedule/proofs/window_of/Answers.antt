-- `schedule::window_of` meets its contract.
use mathlib.Core.Path.{sym, ◌∙◌}
use Rattle.schedule.specs.Windows.{window_of}
use Rattle.schedule.proofs.window_of.Goals as goal

pub returns-then-is_inside : goal.returns-then-is_inside
unfolding window_of
returns-then-is_inside c = rw (sym c.is_inside.ensures ∙ c.if-is_inside.true)

pub returns-then-is_inside-2 : goal.returns-then-is_inside-2
unfolding window_of
returns-then-is_inside-2 c =
    rw (sym c.is_inside.ensures ∙ c.if-is_inside.false, sym c.is_inside-else-is_inside.ensures ∙ c.if-is_inside-2.true)

pub returns-then-is_inside-3 : goal.returns-then-is_inside-3
unfolding window_of
returns-then-is_inside-3 c =
    rw (
      sym c.is_inside.ensures ∙ c.if-is_inside.false,
      sym c.is_inside-else-is_inside.ensures ∙ c.if-is_inside-2.false,
      sym c.is_inside-else-is_inside-2.ensures ∙ c.if-is_inside-3.true,
    )

pub returns-then-is_inside-4 : goal.returns-then-is_inside-4
unfolding window_of
returns-then-is_inside-4 c =
    rw (
      sym c.is_inside.ensures ∙ c.if-is_inside.false,
      sym c.is_inside-else-is_inside.ensures ∙ c.if-is_inside-2.false,
      sym c.is_inside-else-is_inside-2.ensures ∙ c.if-is_inside-3.false,
      sym c.is_inside-else-is_inside-3.ensures ∙ c.if-is_inside-4.true,
    )

pub returns-else-is_inside-4 : goal.returns-else-is_inside-4
unfolding window_of
returns-else-is_inside-4 c =
    rw (
      sym c.is_inside.ensures ∙ c.if-is_inside.false,
      sym c.is_inside-else-is_inside.ensures ∙ c.if-is_inside-2.false,
      sym c.is_inside-else-is_inside-2.ensures ∙ c.if-is_inside-3.false,
      sym c.is_inside-else-is_inside-3.ensures ∙ c.if-is_inside-4.false,
    )
