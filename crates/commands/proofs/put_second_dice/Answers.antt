-- `commands::put_second_dice` meets its contract: the code, and the dice behind it.
use native.Mathlib.Omega.{arith}
use Rattle.laws.specs.Bytes.{length_bytes}
use Rattle.protocol.specs.Record.{second_dice_command}
use Rattle.commands.proofs.Operands.{coded}
use Rattle.commands.proofs.put_second_dice.Goals as goal

pub copy-requires : goal.copy-requires
copy-requires c = omega (arith, length_bytes 1 6)

pub returns : goal.returns
unfolding second_dice_command
returns c = coded 6 (omega arith) c.put1-a.ensures c.copy.ensures
