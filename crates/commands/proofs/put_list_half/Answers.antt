-- `commands::put_list_half` meets its contract: the head, and the three openings behind it.
use native.Mathlib.Omega.{arith}
use Rattle.laws.specs.Writing.{go_on}
use Rattle.protocol.specs.Record.{list_half_command}
use Rattle.commands.proofs.Operands.{after_head}
use Rattle.commands.proofs.put_list_half.Goals as goal

pub put_three_openings-requires : goal.put_three_openings-requires
put_three_openings-requires c =
    let pre = c.requires in
    (pre.0, (pre.1.0, omega (arith, after_head _ _ _ c.put_head-a.ensures)))

pub returns : goal.returns
unfolding list_half_command
returns c = go_on c.put_head-a.ensures c.put_three_openings.ensures
