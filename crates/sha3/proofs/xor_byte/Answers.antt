-- The shift of a byte loses no bits.
use mathlib.Core.Path.{ap}
use Prim.Native.Nat.{ℕ, ◌/◌, ◌%◌, ◌*◌}
use native.Mathlib.Omega.{arith}
use lib.ListN.{get_or, set}
use lib.Bits.{bit_xor}
use Rattle.sha3.specs.Sha3.{xor_byte}
use Rattle.sha3.proofs.Laws.{shl_byte}
use Rattle.sha3.proofs.xor_byte.Goals as goal

pub returns : goal.returns
unfolding xor_byte
returns c =
    let a = c.args in
    ap (λ (x : ℕ). set a.l.now (a.n / 8) (bit_xor (get_or a.l.now (a.n / 8) 0) x)) (shl_byte a.b (a.n % 8 * 8) (omega arith) (omega arith))
