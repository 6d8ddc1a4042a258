-- The invariant: the first k lanes of the state are written.
use mathlib.Core.Path.{◌≡◌}
use Prim.Native.Nat.{◌-◌, ◌*◌, ◌/◌, ◌≤◌}
use lib.ListN.{length, take}
use Rattle.sha3.specs.Sha3.{squeeze}
use Rattle.sha3.proofs.squeeze_into.Given as goal

abbrev pub invariant-loop-k : goal.invariant-loop-k
invariant-loop-k l = (l.k ≤ length l.initial.out / 8) × ((length l.out ≡ length l.initial.out) × (take (8 * l.k) l.out ≡ squeeze l.v (8 * l.k)))

abbrev pub decreases-loop-k : goal.decreases-loop-k
decreases-loop-k l = length l.initial.out / 8 - l.k
