-- `commands::put_vote` meets its contract: the code, and the two operands behind it.
use native.Mathlib.Omega.{arith}
use Rattle.laws.specs.Bytes.{length_bytes}
use Rattle.laws.specs.Writing.{go_on}
use Rattle.protocol.specs.Record.{vote_command}
use Rattle.commands.proofs.Operands.{coded}
use Rattle.commands.proofs.put_vote.Goals as goal

pub put2-b-requires : goal.put2-b-requires
put2-b-requires c = omega (arith, length_bytes 1 9)

pub put4-requires : goal.put4-requires
put4-requires c = omega (arith, length_bytes 1 9, length_bytes 2 c.args.i)

pub returns : goal.returns
unfolding vote_command
returns c = go_on (coded 9 (omega arith) c.put1-a.ensures c.put2-b.ensures) c.put4.ensures
