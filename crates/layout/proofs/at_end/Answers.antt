-- `layout::at_end` meets its contract: it is where one more opened list would start.
use Rattle.std.proofs.Common.{arith}
use Rattle.protocol.specs.Layout.{at_end, at_full_opening}
use Rattle.layout.proofs.at_end.Goals as goal

pub returns : goal.returns
unfolding at_end at_full_opening
returns c = omega arith
