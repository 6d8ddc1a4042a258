-- `commands::put_six_openings` meets its contract: every slot, one step after another.
use native.Mathlib.Omega.{arith}
use Rattle.commands.proofs.put_six_openings.Goals as goal

pub put_openings-requires : goal.put_openings-requires
put_openings-requires c =
    let pre = c.requires in
    (pre.0, (pre.1, λ k l. omega arith))

pub returns : goal.returns
returns c = c.put_openings.ensures
