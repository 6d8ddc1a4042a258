-- `results::tally::fill` meets its contract: the first i votes are tallied.
use Rattle.results.proofs.Tallied.{Tallied}
use Rattle.results.proofs.tally.fill.Given as goal

abbrev pub invariant-loop-i : goal.invariant-loop-i
invariant-loop-i l = Tallied l.votes l.initial.values l.initial.counts l.i l.values l.counts l.pairs
