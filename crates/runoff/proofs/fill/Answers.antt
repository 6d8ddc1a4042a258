-- `runoff::fill` meets its contract: the first i entries are stored.
use mathlib.Core.Path.{sym, ◌∙◌}
use native.Mathlib.Omega.{arith}
use Rattle.runoff.proofs.Filled.{filled_none}
use Rattle.runoff.proofs.Table.{nobody, stored_entry, table_filled}
use Rattle.runoff.proofs.fill.Goals as goal

pub loop-i-init : goal.loop-i-init
loop-i-init c = sym (filled_none nobody _ _)

pub loop-i-preserved : goal.loop-i-preserved
loop-i-preserved c = stored_entry _ _ _ c.loop-i.invariant (omega arith) (omega arith)

pub returns : goal.returns
returns c = c.loop-i.invariant ∙ table_filled _ _ _ _ (omega arith) (omega arith) (omega arith)
