-- `halves::put_linked` meets its contract. The loop: the halves in the first l lists are written.
use mathlib.Core.Path.{◌≡◌}
use Prim.Native.Nat.{◌<◌}
use native.Mathlib.Omega.{arith}
use Rattle.laws.specs.Writing.{start, go_turn}
use Rattle.protocol.specs.Layout.{lists}
use Rattle.mixing.proofs.Agreement.{compared_same}
use Rattle.disclosure.proofs.LinkedHalves.{linked_of, linked_room}
use Rattle.disclosure.proofs.halves.put_linked.Goals as goal
use Rattle.disclosure.proofs.halves.put_linked.Goals.{Start}

pub loop-l-init : goal.loop-l-init
loop-l-init c = start _ _ (omega arith)

pub put_if_compared-next-requires : goal.put_if_compared-next-requires
put_if_compared-next-requires c =
    let a = c.args in
    let lj = c.requires.1.1.0 in
    let ls = c.requires.1.1.1.0 in
    let g = c.loop-l in
    let inside : g.l < lists c.args.s.now.parameters = omega (arith, compared_same c.s.view_is) in
    (c.requires.0, (c.requires.1.0, (inside, (lj, (ls, linked_room c.args.s.now a.mask c.requires.0 a.j a.side lj ls g.invariant c.requires.1.1.1.1 inside)))))

pub loop-l-preserved : goal.loop-l-preserved
loop-l-preserved c =
    let a = c.args in
    let g = c.loop-l in
    go_turn (linked_of c.args.s.now a.mask a.j a.side) g.l g.invariant c.put_if_compared-next.ensures

pub returns : goal.returns
returns c =
    let e : c.loop-l.l ≡ lists c.args.s.now.parameters = omega (arith, compared_same c.s.view_is) in
    rw e at c.loop-l.invariant
