-- `halves::put_linked` meets its contract. The loop: the halves in the first l lists are written.
use Rattle.laws.specs.Chunks.{chunks}
use Rattle.laws.specs.Writing.{Went}
use Rattle.disclosure.proofs.LinkedHalves.{linked_of}
use Rattle.disclosure.proofs.halves.put_linked.Given as goal

abbrev pub invariant-loop-l : goal.invariant-loop-l
invariant-loop-l l =
    Went l.initial.out l.at (chunks (linked_of l.s l.mask l.j l.side) l.l) l.out l.next
