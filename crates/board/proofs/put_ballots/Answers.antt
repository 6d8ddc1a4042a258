-- `board::put_ballots` meets its contract. The loop: the first j ballots are written.
use mathlib.Core.Path.{◌≡◌}
use Prim.Native.Nat.{◌*◌}
use native.Mathlib.Omega.{arith}
use Rattle.laws.specs.Writing.{start, go_turn, go_same, part_length}
use Rattle.mixing.proofs.Agreement as agreement
use Rattle.commands.proofs.Operands.{room_even}
use Rattle.board.proofs.Commands.{ballot_of, ballot_wide, ballot_is}
use Rattle.board.proofs.put_ballots.Goals as goal

pub loop-j-init : goal.loop-j-init
loop-j-init c = start _ _ (omega arith)

pub slice_bounds-keys-end : goal.slice_bounds-keys-end
slice_bounds-keys-end c =
    let passed = rw (← c.s.view_is) at c.requires.0 in
    omega (arith, passed.tests.keys_long)

pub ballot-six-requires : goal.ballot-six-requires
ballot-six-requires c =
    let s = c.args.s.now in
    let tests = c.requires.0.tests in
    (agreement.votes s tests, (agreement.numbers s tests, omega (arith, agreement.ballots_same c.s.view_is)))

pub put_ballot-next-requires : goal.put_ballot-next-requires
put_ballot-next-requires c =
    let s = c.args.s.now in
    let at = c.loop-j in
    let passed = rw (← c.s.view_is) at c.requires.0 in (
      part_length c.s.inside.keys.now (192 * at.j) 192 (omega (arith, passed.tests.keys_long)),
      room_even (ballot_of s) 197 at.j s.parameters.ballots (λ j l. ballot_wide s j) at.invariant c.requires.1 (omega (arith, agreement.ballots_same c.s.view_is)),
    )

pub loop-j-preserved : goal.loop-j-preserved
loop-j-preserved c =
    let at = c.loop-j in
    let six = rw (← c.s.view_is) at c.ballot-six.ensures in
    go_turn (ballot_of c.args.s.now) at.j at.invariant
    (go_same c.put_ballot-next.ensures (rw (← c.s.view_is) (ballot_is _ at.j c.ballot-six.result six)))

pub returns : goal.returns
returns c =
    let e : c.loop-j.j ≡ c.args.s.now.parameters.ballots = omega (arith, agreement.ballots_same c.s.view_is) in
    rw e at c.loop-j.invariant
