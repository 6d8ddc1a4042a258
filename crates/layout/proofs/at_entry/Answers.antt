-- `layout::at_entry` meets its contract: the place is the sum of its definition.
use Rattle.std.proofs.Common.{arith}
use Rattle.protocol.specs.Layout.{at_entry}
use Rattle.layout.proofs.at_entry.Goals as goal

pub returns : goal.returns
unfolding at_entry
returns c = omega arith
