-- The invariant: the first i bytes of the buffer are the first i of the state.
use mathlib.Core.Path.{sym, ap, ◌∙◌}
use Prim.Native.Nat.{◌*◌, ◌/◌, ◌%◌, ◌^◌}
use native.Mathlib.Nat.{le_antisymm}
use native.Mathlib.Omega.{arith}
use lib.Bits.{mask_lt}
use lib.ListN.{get_or, length-set}
use lib.Seq.{take_all}
use Rattle.sha3.specs.Sha3.{squeeze}
use Rattle.sha3.proofs.Squeeze.{byte_more, byte_is}
use Rattle.sha3.proofs.put_rest.Goals as goal

pub overflow_cast-out : goal.overflow_cast-out
overflow_cast-out c =
    record { fits = mask_lt (get_or c.args.v.now (c.loop-i.i / 8) 0 / 2 ^ (c.loop-i.i % 8 * 8)) 8 }

pub loop-i-preserved : goal.loop-i-preserved
loop-i-preserved c =
    let v = c.args.v.now in
    let i = c.loop-i.i in (
      omega arith,
      (
        c.loop-i.invariant.1.0,
        (
          length-set c.loop-i.out i _ ∙ c.loop-i.invariant.1.1.0,
          rw (byte_is v i) (byte_more v c.loop-i.out i (omega arith) c.loop-i.invariant.1.1.1),
        ),
      ),
    )

pub returns : goal.returns
returns c =
    sym (take_all c.loop-i.i c.loop-i.out (omega arith))
    ∙ c.loop-i.invariant.1.1.1
    ∙ ap (squeeze c.args.v.now) (le_antisymm c.loop-i.invariant.0 c.loop-i-test.false)
