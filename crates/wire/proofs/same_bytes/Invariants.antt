-- `wire::same_bytes` meets its contract. The loop: `equal` says whether the bytes passed are equal.
use mathlib.Core.Path.{◌≡◌}
use mathlib.Core.Bool.{Bool}
use mathlib.Core.List.{List}
use Prim.Native.Nat.{ℕ}
use lib.ListN.{get_or}
use Rattle.laws.specs.Tests.{equal, every}
use Rattle.wire.proofs.same_bytes.Given as goal

abbrev pub alike : List ℕ → List ℕ → ℕ → Bool
alike a b k = equal (get_or a k 0) (get_or b k 0)

abbrev pub invariant-loop-i : goal.invariant-loop-i
invariant-loop-i l = l.equal ≡ every (alike l.a l.b) l.i
