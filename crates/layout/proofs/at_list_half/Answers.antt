-- `layout::at_list_half` meets its contract: the place is the sum of its definition.
use Rattle.std.proofs.Common.{arith}
use Rattle.protocol.specs.Layout.{at_list_half}
use Rattle.layout.proofs.at_list_half.Goals as goal

pub returns : goal.returns
unfolding at_list_half
returns c = omega arith
