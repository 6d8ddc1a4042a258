-- `commitment::put_told` meets its contract: one operand behind the other.
use native.Mathlib.Omega.{arith}
use Prim.Native.Nat.{◌%◌}
use Rattle.laws.specs.Bytes.{length_bytes}
use Rattle.laws.specs.Writing.{go_on, go_same}
use Rattle.commitment.proofs.Hashed.{low_byte}
use Rattle.commitment.proofs.put_told.Goals as goal

pub put1-b-requires : goal.put1-b-requires
put1-b-requires c = omega (arith, length_bytes 1 (c.args.slot % 256))

pub put4-requires : goal.put4-requires
put4-requires c = omega (arith, length_bytes 1 (c.args.slot % 256), length_bytes 1 c.args.list)

pub returns : goal.returns
returns c =
    go_on
    (go_on (go_same c.put1-a.ensures (low_byte c.args.slot)) c.put1-b.ensures)
    c.put4.ensures
