-- `calendar::is_placed` meets its contract: a dash at two places, a digit at the others.
use mathlib.Core.Path.{◌∙◌}
use mathlib.Core.Logic.{inl, inr}
use Rattle.calendar.proofs.Formed.{ascii_is, first_dash, second_dash, no_dash}
use Rattle.calendar.proofs.is_placed.Goals as goal

pub returns-then-i-eq7 : goal.returns-then-i-eq7
returns-then-i-eq7 c = elim c.if-i-eq7.either [ inl e ↦ first_dash _ _ e | inr e ↦ second_dash _ _ e.0 e.1 ]

pub returns-else-i-eq7 : goal.returns-else-i-eq7
returns-else-i-eq7 c = c.is_ascii_digit.ensures.value ∙ ascii_is _ ∙ no_dash _ _ c.if-i-eq7.false.0 c.if-i-eq7.false.1
