-- `comparison::put_links` meets its contract. The loop: the links of the first j ballots are written.
use mathlib.Core.Path.{◌≡◌}
use Prim.Native.Nat.{◌<◌}
use native.Mathlib.Omega.{arith}
use Rattle.laws.specs.Writing.{start, go_turn, go_same}
use Rattle.protocol.specs.Terms.{item}
use Rattle.protocol.proofs.Widths.{length_link}
use Rattle.mixing.proofs.Agreement as agreement
use Rattle.commands.proofs.Operands.{room_even}
use Rattle.comparison.proofs.Compared.{link_of, link_is, position_low}
use Rattle.comparison.proofs.put_links.Goals as goal

pub loop-j-init : goal.loop-j-init
loop-j-init c = start _ _ (omega arith)

pub shift-t-requires : goal.shift-t-requires
shift-t-requires c =
    let s = c.args.s.now in
    let pre = c.requires in
    let j = c.loop-j.j in
    let lj : j < s.parameters.ballots = omega (arith, pre.1.1.0.long) in
    let low : item c.args.places.now j < s.parameters.ballots = rw (pre.1.1.0.are j lj) (position_low s pre.0 c.args.l j pre.1.0 lj) in
    (agreement.numbers s pre.0.tests, (agreement.in_list s pre.0.tests pre.1.0, (lj, low)))

pub put_link-next-requires : goal.put_link-next-requires
put_link-next-requires c =
    let s = c.args.s.now in
    let pre = c.requires in
    room_even (link_of s c.args.l) 10 c.loop-j.j s.parameters.ballots (λ j lj. length_link _ _ _ _) c.loop-j.invariant pre.1.1.1 (omega (arith, pre.1.1.0.long))

pub loop-j-preserved : goal.loop-j-preserved
loop-j-preserved c =
    let s = c.args.s.now in
    let at = c.loop-j in
    let places = c.requires.1.1.0 in
    go_turn (link_of s c.args.l) at.j at.invariant
    (go_same c.put_link-next.ensures (link_is s c.args.l at.j _ _ (places.are at.j (omega (arith, places.long))) c.shift-t.ensures.0))

pub returns : goal.returns
returns c =
    let e : c.loop-j.j ≡ c.args.s.now.parameters.ballots = omega (arith, c.requires.1.1.0.long) in
    rw e at c.loop-j.invariant
