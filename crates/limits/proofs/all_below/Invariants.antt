-- `limits::all_below` meets its contract. The loop: `all` says whether the numbers passed are below the limit.
use mathlib.Core.Path.{◌≡◌}
use mathlib.Core.Bool.{Bool}
use mathlib.Core.List.{List}
use Prim.Native.Nat.{ℕ}
use Rattle.laws.specs.Tests.{below, every}
use Rattle.protocol.specs.Terms.{item}
use Rattle.limits.proofs.all_below.Given as goal

abbrev pub below_at : ℕ → List ℕ → ℕ → Bool
below_at limit numbers i = below (item numbers i) limit

abbrev pub invariant-loop-x : goal.invariant-loop-x
invariant-loop-x l = l.all ≡ every (below_at l.limit l.numbers) l.x-index
