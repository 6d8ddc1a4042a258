-- `columns::fill` meets its contract: the first i places are written.
use Rattle.std.proofs.Common.{◌≡◌, ℕ, ◌<◌, length}
use Rattle.protocol.specs.Terms.{item}
use Rattle.columns.proofs.fill.Given as goal

abbrev pub invariant-loop-i : goal.invariant-loop-i
invariant-loop-i g l = (length l.out ≡ length l.initial.out) × ((k : ℕ) → k < l.i → goal.F-post g l.number k (item l.out k))
