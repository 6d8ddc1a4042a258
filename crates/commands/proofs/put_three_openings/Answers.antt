-- `commands::put_three_openings` meets its contract: every other slot, from the side on.
use native.Mathlib.Omega.{arith}
use Rattle.commands.proofs.put_three_openings.Goals as goal

pub put_openings-requires : goal.put_openings-requires
put_openings-requires c =
    let pre = c.requires in
    (pre.1.0, (pre.1.1, λ k l. omega (arith, pre.0)))

pub returns : goal.returns
returns c = c.put_openings.ensures
