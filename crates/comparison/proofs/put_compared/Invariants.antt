-- `comparison::put_compared` meets its contract. The loop: the links of the compared lists among the first l are written.
use Rattle.laws.specs.Chunks.{chunks}
use Rattle.laws.specs.Writing.{Went}
use Rattle.comparison.proofs.Compared.{compared_links}
use Rattle.comparison.proofs.put_compared.Given as goal

abbrev pub invariant-loop-l : goal.invariant-loop-l
invariant-loop-l l = Went l.initial.out l.at (chunks (compared_links l.s l.mask) l.l) l.out l.next
