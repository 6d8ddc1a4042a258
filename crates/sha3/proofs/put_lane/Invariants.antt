-- The invariant: the first j bytes of the lane are written.
use mathlib.Core.Path.{◌≡◌}
use Prim.Native.Nat.{◌-◌, ◌≤◌}
use lib.ListN.{length}
use Rattle.sha3.specs.Word.{put_lane}
use Rattle.sha3.proofs.put_lane.Given as goal

abbrev pub invariant-loop-j : goal.invariant-loop-j
invariant-loop-j l = (l.j ≤ 8) × ((length l.out ≡ length l.initial.out) × (l.out ≡ put_lane l.initial.out l.at l.lane l.j))

abbrev pub decreases-loop-j : goal.decreases-loop-j
decreases-loop-j l = 8 - l.j
