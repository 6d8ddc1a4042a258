-- `board::put_lists` meets its contract. The loop: the first l lists are written.
use mathlib.Core.Path.{◌≡◌}
use Prim.Native.Nat.{◌*◌, ◌<◌}
use native.Mathlib.Omega.{arith}
use Rattle.laws.specs.Writing.{start, go_turn}
use Rattle.mixing.proofs.Agreement.{compared_same}
use Rattle.commands.proofs.Operands.{room_even}
use Rattle.board.proofs.Commands.{entries_of, entries_wide}
use Rattle.board.proofs.put_lists.Goals as goal

pub loop-l-init : goal.loop-l-init
loop-l-init c = start _ _ (omega arith)

pub put_entries-next-requires : goal.put_entries-next-requires
put_entries-next-requires c =
    let s = c.args.s.now in
    let at = c.loop-l in
    let below : at.l < 2 * s.parameters.compared = omega (arith, compared_same c.s.view_is) in
    (c.requires.0, (below, room_even (entries_of s) (s.parameters.ballots * 196) at.l (2 * s.parameters.compared) (λ l h. entries_wide s l) at.invariant c.requires.1 below))

pub loop-l-preserved : goal.loop-l-preserved
loop-l-preserved c = go_turn (entries_of c.args.s.now) c.loop-l.l c.loop-l.invariant c.put_entries-next.ensures

pub returns : goal.returns
returns c =
    let e : c.loop-l.l ≡ 2 * c.args.s.now.parameters.compared = omega (arith, compared_same c.s.view_is) in
    rw e at c.loop-l.invariant
