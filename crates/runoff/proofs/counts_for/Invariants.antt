-- `runoff::counts_for` meets its contract: the digits that were read are the end of a ranking that stands.
use Rattle.runoff.proofs.Rankings.{Read}
use Rattle.runoff.proofs.counts_for.Given as goal

abbrev pub invariant-loop-rest : goal.invariant-loop-rest
invariant-loop-rest l = Read l.candidates l.left l.vote l.named l.first l.rest

abbrev pub decreases-loop-rest : goal.decreases-loop-rest
decreases-loop-rest l = l.rest
