-- `announced::put_votes` meets its contract. The loop: the first i votes are written.
use Rattle.laws.specs.Chunks.{chunks}
use Rattle.laws.specs.Writing.{Went}
use Rattle.protocol.specs.Terms.{item}
use Rattle.protocol.specs.Record.{vote_command}
use Rattle.disclosure.proofs.announced.put_votes.Given as goal

abbrev pub invariant-loop-i : goal.invariant-loop-i
invariant-loop-i l = Went l.initial.out l.at (chunks (λ i. vote_command i (item l.votes i)) l.i) l.out l.next
