-- `wire::copy` meets its contract. The loop: the first i bytes of src are written.
use mathlib.Core.Path.{◌≡◌, ap, ◌∙◌}
use Prim.Native.Nat.{ℕ, ◌+◌}
use native.Mathlib.Omega.{arith}
use lib.ListN.{length, take}
use lib.Seq.{take-length, length-take-le}
use Rattle.laws.specs.Writing.{wrote, nothing, same, put_take}
use Rattle.wire.proofs.copy.Goals as goal

pub loop-i-init : goal.loop-i-init
loop-i-init c = (omega arith, nothing _ _ (omega arith))

pub loop-i-preserved : goal.loop-i-preserved
loop-i-preserved c =
    let i = c.loop-i.i in
    let src = c.args.src.now in
    let n = length-take-le (i + 1) src (omega arith) in
    (omega arith, wrote (put_take _ _ _ i src c.loop-i.invariant.1.is (omega arith) (omega arith)) (omega arith))

pub returns : goal.returns
returns c =
    let src = c.args.src.now in
    let e : c.loop-i.i ≡ length src = omega arith in
    record { wrote = same c.loop-i.invariant.1 (ap (λ (k : ℕ). take k src) e ∙ take-length src); to = omega arith }
