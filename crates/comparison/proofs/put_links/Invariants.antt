-- `comparison::put_links` meets its contract. The loop: the links of the first j ballots are written.
use Rattle.laws.specs.Chunks.{chunks}
use Rattle.laws.specs.Writing.{Went}
use Rattle.comparison.proofs.Compared.{link_of}
use Rattle.comparison.proofs.put_links.Given as goal

abbrev pub invariant-loop-j : goal.invariant-loop-j
invariant-loop-j l = Went l.initial.out l.at (chunks (link_of l.s l.l) l.j) l.out l.next
