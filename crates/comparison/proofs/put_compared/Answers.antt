-- `comparison::put_compared` meets its contract. The loop: the links of the compared lists among the first l are written.
use mathlib.Core.Path.{◌≡◌, sym}
use mathlib.Core.List.{[]}
use Prim.Native.Nat.{◌*◌, ◌<◌}
use native.Mathlib.Omega.{arith}
use Rattle.laws.specs.Tests.{choose_clear, choose_set}
use Rattle.laws.specs.Masks.{bit, bit_small}
use Rattle.laws.specs.Writing.{start, go_turn, go_same}
use Rattle.mixing.proofs.Agreement.{compared_same}
use Rattle.comparison.proofs.Compared.{links_of, compared_links, list_room}
use Rattle.comparison.proofs.put_compared.Goals as goal
use Rattle.comparison.proofs.put_compared.Goals.{then-mask-l-ne0, else-mask-l-ne0}

pub loop-l-init : goal.loop-l-init
loop-l-init c = start _ _ (omega arith)

pub put_list-next-requires : goal.put_list-next-requires
put_list-next-requires c =
    let a = c.args in
    let l = c.loop-l.l in
    let here : l < 2 * a.s.now.parameters.compared = omega (arith, compared_same c.s.view_is) in
    let set : bit a.mask l ≡ 1 = omega (arith, bit_small a.mask l, c.if-mask-l-ne0.true) in
    let room = list_room a.s.now a.mask c.requires.1.0 here c.loop-l.invariant c.requires.1.1 in
    (c.requires.0, (here, omega (arith, rw set at room)))

pub loop-l-preserved : goal.loop-l-preserved
loop-l-preserved c =
    let s = c.args.s.now in
    let mask = c.args.mask in
    let l = c.loop-l.l in
    elim c.if-mask-l-ne0.branch [
      | then-mask-l-ne0 w ↦
          rw (w.out-is, w.next-is)
          (go_turn (compared_links s mask) l c.loop-l.invariant
          (go_same w.put_list-next.ensures (sym (choose_set (bit mask l) [] (links_of s l) w.if-mask-l-ne0.true))))
      | else-mask-l-ne0 w ↦
          rw (w.out-is, w.next-is)
          (go_turn (compared_links s mask) l c.loop-l.invariant
          (go_same (start _ _ (omega arith)) (sym (choose_clear (bit mask l) [] (links_of s l) w.if-mask-l-ne0.false))))
    ]

pub returns : goal.returns
returns c =
    let e : c.loop-l.l ≡ 2 * c.args.s.now.parameters.compared = omega (arith, compared_same c.s.view_is) in
    rw e at c.loop-l.invariant
