-- `wire::copy` meets its contract. The loop: the first i bytes of src are written.
use Prim.Native.Nat.{◌≤◌}
use lib.ListN.{length, take}
use Rattle.laws.specs.Writing.{Wrote}
use Rattle.wire.proofs.copy.Given as goal

abbrev pub invariant-loop-i : goal.invariant-loop-i
invariant-loop-i l = (l.i ≤ length l.src) × Wrote l.initial.out l.at (take l.i l.src) l.out
