-- `runoff::is_decided` meets its contract.
use mathlib.Core.Path.{◌∙◌}
use borrow.Author.Tests.{eq-eqb}
use Rattle.laws.specs.Tests.{is_equal, not_equal, or_go, or_stop}
use Rattle.runoff.proofs.is_decided.Goals as goal

pub returns-then-nothing_counts : goal.returns-then-nothing_counts
returns-then-nothing_counts c = eq-eqb _ _ c.if-nothing_counts.true ∙ or_stop _ _ (is_equal c.if-nothing_counts.true)

pub returns-else-nothing_counts : goal.returns-else-nothing_counts
returns-else-nothing_counts c = or_go _ _ (not_equal c.if-nothing_counts.false) c.is_some.ensures
