-- The sponge has room, and the next piece is not empty and no longer than `a`.
use Prim.Native.Nat.{◌≤◌, ◌<◌}
use lib.ListN.{length}
use Rattle.vectors.proofs.feed.Given as goal

abbrev pub invariant-loop-left : goal.invariant-loop-left
invariant-loop-left l = (l.t.fill < l.rate) × ((0 < l.most) × (l.most ≤ length l.a))

abbrev pub decreases-loop-left : goal.decreases-loop-left
decreases-loop-left l = l.left
