-- `commands::put_six_commitments` meets its contract. The loop: the first q commitments are written.
use Rattle.laws.specs.Chunks.{chunks}
use Rattle.laws.specs.Writing.{Went}
use Rattle.protocol.specs.Terms.{commitment}
use Rattle.commitment.specs.Slots.{in_slot}
use Rattle.commands.specs.Openings.{opening_of}
use Rattle.commands.proofs.put_six_commitments.Given as goal

abbrev pub invariant-loop-q : goal.invariant-loop-q
invariant-loop-q l = Went l.initial.out l.at (chunks (λ q. commitment l.p (in_slot l.place q) (opening_of l.six l.keys q)) l.q) l.out l.next
