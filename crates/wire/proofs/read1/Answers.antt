-- `wire::read1` meets its contract: a byte is its own number.
use mathlib.Core.Path.{◌≡◌, ap}
use Prim.Native.Nat.{ℕ, ◌+◌}
use native.Mathlib.Omega.{arith}
use lib.ListN.{get_or}
use Rattle.laws.specs.Bytes.{number}
use Rattle.wire.proofs.read1.Goals as goal

pub overflow_cast-result : goal.overflow_cast-result
overflow_cast-result c = omega (arith, c.shared_slice_known-1.given c.args.at)

pub returns : goal.returns
unfolding number
returns c =
    let s = c.args.s.now in
    let at = c.args.at in
    let e : at ≡ at + 0 = omega arith in
    (omega (arith, ap (λ (k : ℕ). get_or s k 0) e), omega (arith, c.shared_slice_known-1.given at))
