-- `layout::at_link` meets its contract: the place is the sum of its definition.
use Rattle.std.proofs.Common.{arith}
use Rattle.protocol.specs.Layout.{at_link}
use Rattle.layout.proofs.at_link.Goals as goal

pub returns : goal.returns
unfolding at_link
returns c = omega arith
