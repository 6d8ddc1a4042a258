-- `runoff::winner_among` meets its contract: the winner among the first n candidates.
use mathlib.Core.Path.{◌≡◌}
use Rattle.protocol.specs.Terms.{item}
use Rattle.runoff.specs.Rounds.{candidate, winner_among}
use Rattle.runoff.proofs.winner_among.Given as goal

abbrev pub invariant-loop-n : goal.invariant-loop-n
invariant-loop-n l = l.winner ≡ candidate (winner_among l.all (item l.counts) l.n)
