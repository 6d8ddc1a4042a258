-- `board::put_lists` meets its contract. The loop: the first l lists are written.
use Rattle.laws.specs.Chunks.{chunks}
use Rattle.laws.specs.Writing.{Went}
use Rattle.board.proofs.Commands.{entries_of}
use Rattle.board.proofs.put_lists.Given as goal

abbrev pub invariant-loop-l : goal.invariant-loop-l
invariant-loop-l l = Went l.initial.out l.at (chunks (entries_of l.s) l.l) l.out l.next
