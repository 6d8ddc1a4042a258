-- `commands::put_entry` meets its contract: the head, and the six commitments behind it.
use native.Mathlib.Omega.{arith}
use Rattle.laws.specs.Writing.{go_on}
use Rattle.protocol.specs.Record.{entry_command}
use Rattle.commands.proofs.Operands.{after_head}
use Rattle.commands.proofs.put_entry.Goals as goal

pub put_six_commitments-requires : goal.put_six_commitments-requires
put_six_commitments-requires c =
    let pre = c.requires in
    (pre.0, omega (arith, after_head _ _ _ c.put_head-a.ensures))

pub returns : goal.returns
unfolding entry_command
returns c = go_on c.put_head-a.ensures c.put_six_commitments.ensures
