-- `runoff::fewest_among` meets its contract: who leaves among the first n candidates.
use mathlib.Core.Path.{◌≡◌}
use Rattle.protocol.specs.Terms.{item}
use Rattle.runoff.specs.Rounds.{candidate, fewest_among}
use Rattle.runoff.proofs.fewest_among.Given as goal

abbrev pub invariant-loop-n : goal.invariant-loop-n
invariant-loop-n l = l.fewest ≡ candidate (fewest_among l.left (item l.counts) l.n)
