-- `layout::at_first_dice` meets its contract: it is where a list behind the last would start.
use Rattle.std.proofs.Common.{arith}
use Rattle.protocol.specs.Layout.{at_first_dice, at_entry}
use Rattle.layout.proofs.at_first_dice.Goals as goal

pub returns : goal.returns
unfolding at_first_dice at_entry
returns c = omega arith
