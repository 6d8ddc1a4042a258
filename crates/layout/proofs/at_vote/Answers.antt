-- `layout::at_vote` meets its contract: the place is the sum of its definition.
use Rattle.std.proofs.Common.{arith}
use Rattle.protocol.specs.Layout.{at_vote}
use Rattle.layout.proofs.at_vote.Goals as goal

pub returns : goal.returns
unfolding at_vote
returns c = omega arith
