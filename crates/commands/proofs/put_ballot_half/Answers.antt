-- `commands::put_ballot_half` meets its contract: the code, the ballot, the side and its three openings.
use native.Mathlib.Omega.{arith}
use Rattle.laws.specs.Bytes.{length_bytes}
use Rattle.laws.specs.Writing.{go_on}
use Rattle.protocol.specs.Record.{ballot_half_command}
use Rattle.commands.proofs.Operands.{coded}
use Rattle.commands.proofs.put_ballot_half.Goals as goal

pub put2-b-requires : goal.put2-b-requires
put2-b-requires c = omega (arith, length_bytes 1 7)

pub put1-c-requires : goal.put1-c-requires
put1-c-requires c = omega (arith, length_bytes 1 7, length_bytes 2 c.args.j)

pub put_three_openings-requires : goal.put_three_openings-requires
put_three_openings-requires c =
    let pre = c.requires in
    let args = c.args in
    (pre.0, (pre.1.0, omega (arith, length_bytes 1 7, length_bytes 2 args.j, length_bytes 1 args.side)))

pub returns : goal.returns
unfolding ballot_half_command
returns c = go_on (go_on (coded 7 (omega arith) c.put1-a.ensures c.put2-b.ensures) c.put1-c.ensures) c.put_three_openings.ensures
