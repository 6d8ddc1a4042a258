-- `commands::put_head` meets its contract: the code, and the two operands behind it.
use native.Mathlib.Omega.{arith}
use Rattle.laws.specs.Bytes.{length_bytes}
use Rattle.laws.specs.Writing.{go_on}
use Rattle.commands.proofs.Operands.{coded}
use Rattle.commands.proofs.put_head.Goals as goal

pub put1-b-requires : goal.put1-b-requires
put1-b-requires c = omega (arith, length_bytes 1 c.args.code)

pub put2-requires : goal.put2-requires
put2-requires c = omega (arith, length_bytes 1 c.args.code, length_bytes 1 c.args.l)

pub returns : goal.returns
returns c = go_on (coded _ (omega arith) c.put1-a.ensures c.put1-b.ensures) c.put2.ensures
