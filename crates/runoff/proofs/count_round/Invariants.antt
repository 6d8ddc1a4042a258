-- `runoff::count_round` meets its contract: the votes before this one are counted.
use Rattle.runoff.proofs.Tallying.{Tallied}
use Rattle.runoff.proofs.count_round.Given as goal

abbrev pub invariant-loop-vote : goal.invariant-loop-vote
invariant-loop-vote l = Tallied l.candidates l.votes l.left l.vote-index l.counts
