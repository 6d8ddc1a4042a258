-- `commands::put_six_commitments` meets its contract. The loop: the first q commitments are written.
use mathlib.Core.Path.{◌≡◌, ap₂}
use native.Mathlib.Omega.{arith}
use borrow.Author.Rules.{rules}
use Rattle.laws.specs.Writing.{start, go_turn, go_same}
use Rattle.protocol.specs.Terms.{commitment}
use Rattle.protocol.proofs.Honesty.{length_commitment}
use Rattle.commitment.specs.Slots.{in_slot}
use Rattle.commands.specs.Openings.{opening_of}
use Rattle.commands.proofs.Operands.{room_even}
use Rattle.commands.proofs.Openings.{opening_is}
use Rattle.commands.proofs.put_six_commitments.Goals as goal

pub loop-q-init : goal.loop-q-init
loop-q-init c = start _ _ (omega arith)

pub put_commitment-next-requires : goal.put_commitment-next-requires
put_commitment-next-requires c =
    let args = c.args in (
      search rules,
      room_even (λ q. commitment args.p (in_slot args.place q) (opening_of args.six args.keys.now q)) 32 c.loop-q.q 6
          (λ i l. length_commitment _ _ _) c.loop-q.invariant (omega arith) (omega arith),
    )

pub loop-q-preserved : goal.loop-q-preserved
loop-q-preserved c =
    let args = c.args in
    let q = c.loop-q.q in
    go_turn (λ q. commitment args.p (in_slot args.place q) (opening_of args.six args.keys.now q)) q c.loop-q.invariant
    (go_same c.put_commitment-next.ensures
    (ap₂ (commitment args.p) c.in_slot-here.ensures (opening_is args.six args.keys.now q)))

pub shape_of-out : goal.shape_of-out
shape_of-out c = omega (arith, c.loop-q.invariant.wrote.long)

pub returns : goal.returns
returns c =
    let e : c.loop-q.q ≡ 6 = omega arith in
    rw e at c.loop-q.invariant
