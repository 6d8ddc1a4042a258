-- `runoff::fill` meets its contract: the first i entries are stored.
use mathlib.Core.Path.{◌≡◌}
use Rattle.runoff.specs.Rounds.{entries}
use Rattle.runoff.proofs.Filled.{filled}
use Rattle.runoff.proofs.Table.{nobody}
use Rattle.runoff.proofs.fill.Given as goal

abbrev pub invariant-loop-i : goal.invariant-loop-i
invariant-loop-i l = l.table ≡ filled nobody (entries l.counts l.left) l.initial.table l.i
