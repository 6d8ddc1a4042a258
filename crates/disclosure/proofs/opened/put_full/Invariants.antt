-- `opened::put_full` meets its contract. The loop: the first i full openings are written.
use Rattle.laws.specs.Chunks.{chunks}
use Rattle.laws.specs.Writing.{Went}
use Rattle.protocol.specs.Record.{full_command}
use Rattle.protocol.specs.Inputs.{inputs_of}
use Rattle.protocol.specs.Servers.{entry_opening}
use Rattle.disclosure.proofs.opened.put_full.Given as goal

abbrev pub invariant-loop-i : goal.invariant-loop-i
invariant-loop-i l = Went l.initial.out l.at (chunks (λ i. full_command l.l i (entry_opening (inputs_of l.s) l.l i)) l.i) l.out l.next
