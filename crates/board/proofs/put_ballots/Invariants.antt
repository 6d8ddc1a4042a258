-- `board::put_ballots` meets its contract. The loop: the first j ballots are written.
use Rattle.laws.specs.Chunks.{chunks}
use Rattle.laws.specs.Writing.{Went}
use Rattle.board.proofs.Commands.{ballot_of}
use Rattle.board.proofs.put_ballots.Given as goal

abbrev pub invariant-loop-j : goal.invariant-loop-j
invariant-loop-j l = Went l.initial.out l.at (chunks (ballot_of l.s) l.j) l.out l.next
