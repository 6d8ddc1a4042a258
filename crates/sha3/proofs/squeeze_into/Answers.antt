-- The invariant: the first k lanes of the state are written.
use mathlib.Core.Path.{◌≡◌, refl, ap, ◌∙◌}
use Prim.Native.Nat.{◌+◌, ◌*◌}
use native.Mathlib.Nat.{le_antisymm}
use native.Mathlib.Omega.{arith}
use lib.ListN.{length}
use borrow.Author.Rules.{rules}
use Rattle.sha3.specs.Sha3.{squeeze}
use Rattle.sha3.proofs.Squeeze.{length_put_lane, lane_more}
use Rattle.sha3.proofs.squeeze_into.Goals as goal

pub loop-k-init : goal.loop-k-init
unfolding squeeze
loop-k-init c = (search rules, (refl, refl))

pub loop-k-preserved : goal.loop-k-preserved
loop-k-preserved c =
    let e = c.put_lane.ensures in
    let k = c.loop-k.k in
    let s : 8 * (k + 1) ≡ 8 * k + 8 = omega arith in (
      omega arith,
      (
        ap length e ∙ length_put_lane c.loop-k.out (8 * k) _ 8 ∙ c.loop-k.invariant.1.0,
        rw (s, e) (lane_more c.args.v.now c.loop-k.out k 8 (omega arith) (omega arith) c.loop-k.invariant.1.1),
      ),
    )

pub put_rest-requires : goal.put_rest-requires
put_rest-requires c =
    (omega arith, (omega arith, rw (le_antisymm c.loop-k.invariant.0 c.loop-k-test.false) at c.loop-k.invariant.1.1))

pub returns : goal.returns
returns c = cc
