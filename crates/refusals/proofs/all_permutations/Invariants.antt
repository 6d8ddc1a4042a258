-- `refusals::all_permutations` meets its contract: the first c rows are permutations.
use mathlib.Core.Path.{◌≡◌}
use mathlib.Core.Bool.{Bool, true}
use mathlib.Core.List.{List}
use Prim.Native.Nat.{ℕ, ◌*◌}
use Rattle.laws.specs.Tests.{every}
use Rattle.laws.specs.Chunks.{piece}
use Rattle.protocol.specs.Terms.{item}
use Rattle.protocol.specs.Columns.{is_permutation}
use Rattle.refusals.proofs.all_permutations.Given as goal

abbrev pub permutation_at : ℕ → List ℕ → ℕ → Bool
permutation_at n permutations c = is_permutation n (item (piece permutations (c * n) n))

abbrev pub invariant-loop-c : goal.invariant-loop-c
invariant-loop-c l = every (permutation_at l.p.ballots l.permutations) l.c ≡ true
