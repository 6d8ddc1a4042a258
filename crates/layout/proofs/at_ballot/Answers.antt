-- `layout::at_ballot` meets its contract: the place is the sum of its definition.
use Rattle.std.proofs.Common.{arith}
use Rattle.protocol.specs.Layout.{at_ballot}
use Rattle.layout.proofs.at_ballot.Goals as goal

pub returns : goal.returns
unfolding at_ballot
returns c = omega arith
