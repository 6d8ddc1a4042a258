-- `runoff::all_rounds` meets its contract: the rounds that are left give what all of them give.
use mathlib.Core.Path.{◌≡◌}
use Prim.Native.Nat.{◌-◌}
use Rattle.runoff.specs.Rounds.{onward, result}
use Rattle.runoff.proofs.all_rounds.Given as goal

abbrev pub invariant-loop-n : goal.invariant-loop-n
invariant-loop-n l = (l.s.rounds ≡ l._n) × (onward l.candidates l.votes (l.candidates - l._n) l.s ≡ result l.candidates l.votes)
