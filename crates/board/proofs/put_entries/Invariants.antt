-- `board::put_entries` meets its contract. The loop: the first i entries of the list are written.
use Rattle.laws.specs.Chunks.{chunks}
use Rattle.laws.specs.Writing.{Went}
use Rattle.board.proofs.Commands.{entry_of}
use Rattle.board.proofs.put_entries.Given as goal

abbrev pub invariant-loop-i : goal.invariant-loop-i
invariant-loop-i l = Went l.initial.out l.at (chunks (entry_of l.s l.l) l.i) l.out l.next
