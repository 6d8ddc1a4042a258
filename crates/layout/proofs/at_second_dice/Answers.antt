-- `layout::at_second_dice` meets its contract: it is where the links of one more compared list would start.
use Rattle.std.proofs.Common.{arith}
use Rattle.protocol.specs.Layout.{at_second_dice, at_link}
use Rattle.layout.proofs.at_second_dice.Goals as goal

pub returns : goal.returns
unfolding at_second_dice at_link
returns c = omega arith
