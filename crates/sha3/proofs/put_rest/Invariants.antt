-- The invariant: the first i bytes of the buffer are the first i of the state.
use mathlib.Core.Path.{◌≡◌}
use Prim.Native.Nat.{◌-◌, ◌≤◌}
use lib.ListN.{length, take}
use Rattle.sha3.specs.Sha3.{squeeze}
use Rattle.sha3.proofs.put_rest.Given as goal

abbrev pub invariant-loop-i : goal.invariant-loop-i
invariant-loop-i l =
    (l.i ≤ length l.initial.out) × ((l.i-end ≡ length l.initial.out) × ((length l.out ≡ length l.initial.out) × (take l.i l.out ≡ squeeze l.v l.i)))

abbrev pub decreases-loop-i : goal.decreases-loop-i
decreases-loop-i l = length l.initial.out - l.i
