-- The invariant: the words of the first k lanes are added.
use mathlib.Core.Path.{◌≡◌}
use Prim.Native.Nat.{◌-◌, ◌/◌, ◌≤◌}
use Rattle.sha3.specs.Word.{add_words}
use Rattle.sha3.proofs.add_block.Given as goal

abbrev pub invariant-loop-k : goal.invariant-loop-k
invariant-loop-k l = (l.k ≤ l.rate / 8) × ((l.k-end ≡ l.rate / 8) × (l.l ≡ add_words l.initial.l l.p l.at l.k))

abbrev pub decreases-loop-k : goal.decreases-loop-k
decreases-loop-k l = l.rate / 8 - l.k
