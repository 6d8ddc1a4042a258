-- `placing::place_all` meets its contract. The loop: the places of the compared lists among the first l are filled in.
use mathlib.Core.Path.{◌≡◌}
use native.Mathlib.Omega.{arith}
use Rattle.protocol.specs.Layout.{lists}
use Rattle.mixing.proofs.Agreement.{compared_same}
use Rattle.disclosure.proofs.LinkedHalves.{none_placed}
use Rattle.disclosure.proofs.placing.place_all.Goals as goal

pub loop-l-init : goal.loop-l-init
loop-l-init c = none_placed _ _ c.requires.1

pub place_if_compared-requires : goal.place_if_compared-requires
place_if_compared-requires c = (c.requires.0, (omega (arith, compared_same c.s.view_is), c.loop-l.invariant))

pub loop-l-preserved : goal.loop-l-preserved
loop-l-preserved c = c.place_if_compared.ensures

pub returns : goal.returns
returns c =
    let e : c.loop-l.l ≡ lists c.args.s.now.parameters = omega (arith, compared_same c.s.view_is) in
    rw e at c.loop-l.invariant
