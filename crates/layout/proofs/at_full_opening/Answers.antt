-- `layout::at_full_opening` meets its contract: the place is the sum of its definition.
use Rattle.std.proofs.Common.{arith}
use Rattle.protocol.specs.Layout.{at_full_opening}
use Rattle.layout.proofs.at_full_opening.Goals as goal

pub returns : goal.returns
unfolding at_full_opening
returns c = omega arith
