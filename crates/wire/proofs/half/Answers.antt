-- `wire::half` meets its contract: four bytes are the number.
use mathlib.Core.Path.{◌≡◌, ap}
use Prim.Native.Nat.{ℕ, ◌+◌}
use native.Mathlib.Omega.{arith}
use lib.ListN.{get_or}
use Rattle.laws.specs.Bytes.{number}
use Rattle.wire.proofs.half.Goals as goal

pub returns : goal.returns
unfolding number
returns c =
    let s = c.args.s.now in
    let at = c.args.at in
    let e : at ≡ at + 0 = omega arith in
    (omega (arith, ap (λ (k : ℕ). get_or s k 0) e), omega arith)
