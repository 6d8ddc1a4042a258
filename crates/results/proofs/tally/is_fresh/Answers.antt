-- `results::tally::is_fresh` meets its contract.
use mathlib.Core.Path.{◌≡◌, refl, ◌∙◌}
use mathlib.Core.Bool.{true}
use native.Mathlib.Omega.{arith}
use Rattle.std.specs.Prelude.{nat_eq}
use Rattle.laws.specs.Tests.{differ, or_go, or_stop, is_equal, not_equal}
use Rattle.results.proofs.tally.is_fresh.Goals as goal

pub returns-then-i-eq0 : goal.returns-then-i-eq0
returns-then-i-eq0 c = let e : nat_eq c.args.i 0 ≡ true = rw c.if-i-eq0.true refl in e ∙ or_stop _ _ (is_equal c.if-i-eq0.true)

pub returns-else-i-eq0 : goal.returns-else-i-eq0
unfolding differ
returns-else-i-eq0 c = or_go _ _ (not_equal (omega arith)) refl
