-- `commands::put_first_dice` meets its contract: the code, the dice and the mask.
use native.Mathlib.Omega.{arith}
use Rattle.laws.specs.Bytes.{length_bytes}
use Rattle.laws.specs.Writing.{go_on}
use Rattle.protocol.specs.Record.{first_dice_command}
use Rattle.commands.proofs.Operands.{coded}
use Rattle.commands.proofs.put_first_dice.Goals as goal

pub copy-b-requires : goal.copy-b-requires
copy-b-requires c = omega (arith, length_bytes 1 4)

pub put4-requires : goal.put4-requires
put4-requires c = omega (arith, length_bytes 1 4)

pub returns : goal.returns
unfolding first_dice_command
returns c = go_on (coded 4 (omega arith) c.put1-a.ensures c.copy-b.ensures) c.put4.ensures
