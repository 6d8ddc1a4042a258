-- `calendar::said` meets its contract: where the argument is formed, digits stand at the places that are read.
use mathlib.Core.Path.{sym, ◌∙◌}
use native.Mathlib.Omega.{arith}
use Rattle.calendar.specs.Arguments.{number_in}
use Rattle.calendar.proofs.Formed.{places, said_number, said_nothing}
use Rattle.calendar.proofs.said.Goals as goal

pub returns-then-not-is_formed : goal.returns-then-not-is_formed
returns-then-not-is_formed c = said_nothing _ (sym c.is_formed.ensures ∙ c.if-not-is_formed.true)

pub two_at-requires : goal.two_at-requires
two_at-requires c = (places _ (sym c.is_formed.ensures ∙ c.if-not-is_formed.false)).century

pub two_at-requires-2 : goal.two_at-requires-2
two_at-requires-2 c = (places _ (sym c.is_formed.ensures ∙ c.if-not-is_formed.false)).year

pub two_at-requires-3 : goal.two_at-requires-3
two_at-requires-3 c = (places _ (sym c.is_formed.ensures ∙ c.if-not-is_formed.false)).month

pub two_at-requires-4 : goal.two_at-requires-4
two_at-requires-4 c = (places _ (sym c.is_formed.ensures ∙ c.if-not-is_formed.false)).day

pub returns : goal.returns
unfolding number_in
returns c =
    said_number _ (sym c.is_formed.ensures ∙ c.if-not-is_formed.false) _
    (omega (arith, c.two_at.ensures.0, c.two_at-2.ensures.0, c.two_at-3.ensures.0, c.two_at-4.ensures.0))
