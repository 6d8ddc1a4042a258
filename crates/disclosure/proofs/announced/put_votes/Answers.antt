-- `announced::put_votes` meets its contract. The loop: the first i votes are written.
use mathlib.Core.Path.{◌≡◌}
use native.Mathlib.Omega.{arith}
use lib.ListN.{length}
use Rattle.laws.specs.Writing.{start, go_turn}
use Rattle.protocol.specs.Terms.{item}
use Rattle.protocol.specs.Record.{vote_command}
use Rattle.protocol.proofs.Widths.{length_vote}
use Rattle.commands.proofs.Operands.{room_even}
use Rattle.disclosure.proofs.announced.put_votes.Goals as goal

pub loop-i-init : goal.loop-i-init
loop-i-init c = start _ _ (omega arith)

pub put_vote-next-requires : goal.put_vote-next-requires
put_vote-next-requires c =
    let s = c.args in
    let g = c.loop-i in
    room_even (λ i. vote_command i (item s.votes.now i)) 7 g.i (length s.votes.now) (λ i h. length_vote i _) g.invariant (omega arith) (omega arith)

pub loop-i-preserved : goal.loop-i-preserved
loop-i-preserved c =
    let s = c.args in
    let g = c.loop-i in
    go_turn (λ i. vote_command i (item s.votes.now i)) g.i g.invariant c.put_vote-next.ensures

pub returns : goal.returns
returns c =
    let e : c.loop-i.i ≡ length c.args.votes.now = omega arith in
    rw e at c.loop-i.invariant
