-- `opened::put_opened` meets its contract. The loop: the first l lists are done.
use Rattle.laws.specs.Chunks.{chunks}
use Rattle.laws.specs.Writing.{Went}
use Rattle.disclosure.proofs.FullOpenings.{opened_of}
use Rattle.disclosure.proofs.opened.put_opened.Given as goal

abbrev pub invariant-loop-l : goal.invariant-loop-l
invariant-loop-l l =
    Went l.initial.out l.at (chunks (opened_of l.s l.mask) l.l) l.out l.next
