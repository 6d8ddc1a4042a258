-- `commitment::put_opening` meets its contract: the key, and the number behind it.
use Prim.Native.Nat.{◌+◌}
use native.Mathlib.Omega.{arith}
use Rattle.laws.specs.Writing.{Went, go_on}
use Rattle.protocol.specs.Terms.{opening}
use Rattle.commitment.proofs.put_opening.Goals as goal

pub returns : goal.returns
unfolding opening
returns c =
    let key : Went c.args.out.now c.args.at c.args.key.now c.copy_key.new.out (c.args.at + 32) =
    record { wrote = c.copy_key.ensures; to = omega (arith, c.requires.0) } in
    go_on key c.put4.ensures
