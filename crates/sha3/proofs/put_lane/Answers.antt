-- The invariant: the first j bytes of the lane are written.
use mathlib.Core.Path.{refl, ap, ◌∙◌}
use Prim.Native.Nat.{◌+◌, ◌*◌, ◌/◌, ◌^◌}
use native.Mathlib.Nat.{le_antisymm}
use native.Mathlib.Numerals.{add-one}
use native.Mathlib.Omega.{arith}
use lib.Bits.{and_mask, mask_lt}
use lib.ListN.{length-set}
use borrow.Author.Rules.{rules}
use Rattle.sha3.specs.Word.{put_lane}
use Rattle.sha3.proofs.put_lane.Goals as goal

pub loop-j-init : goal.loop-j-init
unfolding put_lane
loop-j-init c = (search rules, (refl, refl))

pub overflow_cast-out : goal.overflow_cast-out
overflow_cast-out c = record { fits = mask_lt (c.args.lane / 2 ^ (c.loop-j.j * 8)) 8 }

pub loop-j-preserved : goal.loop-j-preserved
unfolding put_lane
loop-j-preserved c =
    let args = c.args in
    let j = c.loop-j.j in (
      omega arith,
      (
        length-set c.loop-j.out (args.at + j) _ ∙ c.loop-j.invariant.1.0,
        rw (add-one, ← c.loop-j.invariant.1.1, and_mask (args.lane / 2 ^ (j * 8)) 8),
      ),
    )

pub returns : goal.returns
returns c =
    let args = c.args in
    c.loop-j.invariant.1.1 ∙ ap (put_lane args.out.now args.at args.lane) (le_antisymm c.loop-j.invariant.0 c.loop-j-test.false)
