-- `commands::put_link` meets its contract: the head, the position and the shift.
use native.Mathlib.Omega.{arith}
use Rattle.laws.specs.Bytes.{length_bytes}
use Rattle.laws.specs.Writing.{go_on}
use Rattle.protocol.specs.Record.{link_command}
use Rattle.commands.proofs.Operands.{after_head}
use Rattle.commands.proofs.put_link.Goals as goal

pub put2-b-requires : goal.put2-b-requires
put2-b-requires c = omega (arith, after_head _ _ _ c.put_head-a.ensures)

pub put4-requires : goal.put4-requires
put4-requires c = omega (arith, after_head _ _ _ c.put_head-a.ensures, length_bytes 2 c.args.position)

pub returns : goal.returns
unfolding link_command
returns c = go_on (go_on c.put_head-a.ensures c.put2-b.ensures) c.put4.ensures
