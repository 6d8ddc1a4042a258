-- `mixing::entry_side` meets its contract: the first halves as they stand, or the whole entry.
use Prim.Native.Nat.{◌+◌, ◌*◌}
use native.Mathlib.Omega.{arith}
use Rattle.mixing.proofs.Following.{first_halves}
use Rattle.mixing.proofs.entry_side.Goals as goal

pub returns-then-side-ne0 : goal.returns-then-side-ne0
returns-then-side-ne0 c = λ k lk. (c.entry.ensures (2 * k + c.args.side) (omega (arith, c.requires.0))).0

pub returns : goal.returns
returns c = first_halves _ _ _ _ c.args.side c.if-side-ne0.false c.entry_halves-first.ensures
