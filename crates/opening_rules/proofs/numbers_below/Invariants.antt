-- `opening_rules::numbers_below` meets its contract. The loop: the numbers passed are below the modulus.
use mathlib.Core.Path.{◌≡◌}
use mathlib.Core.Bool.{Bool, true}
use mathlib.Core.List.{List}
use Prim.Native.Nat.{ℕ}
use Rattle.laws.specs.Tests.{below, every}
use Rattle.protocol.specs.Terms.{opened}
use Rattle.opening_rules.specs.Opened.{opening_at}
use Rattle.opening_rules.proofs.numbers_below.Given as goal

abbrev pub small : ℕ → List ℕ → ℕ → ℕ → Bool
small M r at i = below (opened (opening_at r at i)) M

abbrev pub invariant-loop-i : goal.invariant-loop-i
invariant-loop-i l = every (small l.modulus l.bytes l.at) l.i ≡ true
