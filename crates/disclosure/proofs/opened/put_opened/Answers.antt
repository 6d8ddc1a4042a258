-- `opened::put_opened` meets its contract. The loop: the first l lists are done.
use mathlib.Core.Path.{◌≡◌}
use Prim.Native.Nat.{◌<◌}
use native.Mathlib.Omega.{arith}
use Rattle.laws.specs.Writing.{start, go_turn}
use Rattle.protocol.specs.Layout.{lists}
use Rattle.mixing.proofs.Agreement.{compared_same}
use Rattle.disclosure.proofs.FullOpenings.{opened_of, opened_room}
use Rattle.disclosure.proofs.opened.put_opened.Goals as goal
use Rattle.disclosure.proofs.opened.put_opened.Goals.{Start}

pub loop-l-init : goal.loop-l-init
loop-l-init c = start _ _ (omega arith)

pub put_if_opened-next-requires : goal.put_if_opened-next-requires
put_if_opened-next-requires c =
    let g = c.loop-l in
    let inside : g.l < lists c.args.s.now.parameters = omega (arith, compared_same c.s.view_is) in
    (c.requires.0.passed, (inside, opened_room c.args.s.now c.args.mask c.requires.0 g.invariant c.requires.1 inside))

pub loop-l-preserved : goal.loop-l-preserved
loop-l-preserved c =
    let g = c.loop-l in
    go_turn (opened_of c.args.s.now c.args.mask) g.l g.invariant c.put_if_opened-next.ensures

pub returns : goal.returns
returns c =
    let e : c.loop-l.l ≡ lists c.args.s.now.parameters = omega (arith, compared_same c.s.view_is) in
    rw e at c.loop-l.invariant
