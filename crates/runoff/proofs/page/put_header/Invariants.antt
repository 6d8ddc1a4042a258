-- `runoff::page::put_header` meets its contract: behind the first word the cells of the first i candidates are written.
use Rattle.laws.specs.Chunks.{chunks}
use Rattle.laws.specs.Writing.{Went}
use Rattle.runoff.specs.Page.{header_cell}
use Rattle.runoff.proofs.page.put_header.Given as goal

abbrev pub invariant-loop-i : goal.invariant-loop-i
invariant-loop-i l = Went l.initial.out l.initial.next (chunks header_cell l.i) l.out l.next
