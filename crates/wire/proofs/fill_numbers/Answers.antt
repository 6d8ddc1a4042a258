-- `wire::fill_numbers` meets its contract. The loop: what is passed is written.
use mathlib.Core.Path.{◌≡◌, refl}
use Prim.Native.Nat.{◌+◌, ◌*◌, ◌≤◌}
use native.Mathlib.Omega.{arith}
use lib.ListN.{length}
use Rattle.laws.specs.Tables.{none_filled, one_filled, all_filled}
use Rattle.wire.proofs.fill_numbers.Goals as goal
use Rattle.wire.proofs.fill_numbers.Goals.{In-loop-i}

pub loop-i-init : goal.loop-i-init
loop-i-init c = none_filled _ _

-- the number of this turn lies in the bytes
inside : (c : In-loop-i) → (let s = c.args in s.at + s.step * c.loop-i.i + 4 ≤ length s.s.now)
inside c = c.requires c.loop-i.i (omega arith)

pub loop-i-preserved : goal.loop-i-preserved
loop-i-preserved c = one_filled _ c.loop-i.invariant (omega arith) c.read4.ensures.0

pub returns : goal.returns
returns c = let e : c.loop-i.i ≡ length c.args.out.now = omega arith in all_filled _ c.loop-i.invariant e refl
