-- `commands::put_ballot` meets its contract: the code, the id and the six commitments.
use native.Mathlib.Omega.{arith}
use Rattle.laws.specs.Bytes.{length_bytes}
use Rattle.laws.specs.Writing.{go_on}
use Rattle.protocol.specs.Tablet.{ballot_command}
use Rattle.commands.proofs.Operands.{coded}
use Rattle.commands.proofs.put_ballot.Goals as goal

pub put4-b-requires : goal.put4-b-requires
put4-b-requires c = omega (arith, length_bytes 1 2)

pub put_six_commitments-requires : goal.put_six_commitments-requires
put_six_commitments-requires c =
    let pre = c.requires in
    (pre.0, omega (arith, length_bytes 1 2, length_bytes 4 c.args.id))

pub returns : goal.returns
unfolding ballot_command
returns c = go_on (coded 2 (omega arith) c.put1-a.ensures c.put4-b.ensures) c.put_six_commitments.ensures
