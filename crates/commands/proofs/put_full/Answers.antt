-- `commands::put_full` meets its contract: the head, and the six openings behind it.
use native.Mathlib.Omega.{arith}
use Rattle.laws.specs.Writing.{go_on}
use Rattle.protocol.specs.Record.{full_command}
use Rattle.commands.proofs.Operands.{after_head}
use Rattle.commands.proofs.put_full.Goals as goal

pub put_six_openings-requires : goal.put_six_openings-requires
put_six_openings-requires c =
    let pre = c.requires in
    (pre.0, omega (arith, after_head _ _ _ c.put_head-a.ensures))

pub returns : goal.returns
unfolding full_command
returns c = go_on c.put_head-a.ensures c.put_six_openings.ensures
