-- `runoff::page::put_rounds` meets its contract: the lines of n rounds are written, and with those still to come they are the whole.
use Rattle.runoff.proofs.RoundLines.{Lined}
use Rattle.runoff.proofs.page.put_rounds.Given as goal

abbrev pub invariant-loop-n : goal.invariant-loop-n
invariant-loop-n l = Lined l.candidates l.votes l.initial.out l.at l.out l.to l.s l._n
