-- `challenge::drawn_mask` meets its contract. The loop: the mask so far, with what is drawn of the lists behind, is the mask.
use mathlib.Core.Path.{sym, ap, ◌∙◌}
use Prim.Native.Nat.{ℕ, ◌+◌, ◌-◌, ◌*◌}
use native.Mathlib.Omega.{arith}
use Rattle.laws.specs.Sums.{one_if}
use Rattle.laws.specs.Tests.{below_iff, told_true, told_false}
use Rattle.protocol.specs.Drawing.{list_hash, drawn_mask}
use Rattle.challenge.proofs.Draws.{shifted, mask_more, mask_small, draw_start, draw_none, next_list}
use Rattle.challenge.proofs.drawn_mask.Goals as goal
use Rattle.challenge.proofs.drawn_mask.Goals.{then-list_chosen, else-list_chosen}

pub loop-i-init : goal.loop-i-init
unfolding drawn_mask
loop-i-init c = record { few = omega arith; small = omega arith; rest = draw_start (list_hash c.args.q.now) (2 * c.args.compared) c.args.compared }

pub overflow_add-mask : goal.overflow_add-mask
overflow_add-mask c =
    let l = c.loop-i in
    let e = shifted 1 l.i (omega arith) (omega arith) in
    let m = mask_small (mask_more l.mask 1 l.i l.invariant.small (omega arith)) (omega arith) in
    omega arith

pub overflow_sub-left : goal.overflow_sub-left
overflow_sub-left c = let m = (below_iff _ _).0 (told_true c.list_chosen.ensures c.if-list_chosen.true) in omega arith

pub loop-i-preserved : goal.loop-i-preserved
loop-i-preserved c =
    let l = c.loop-i in
    elim c.if-list_chosen.branch [
      | then-list_chosen w ↦ next_list 1 l.invariant (omega arith) (omega arith) (ap one_if (sym (told_true c.list_chosen.ensures w.if-list_chosen.true)))
          (w.mask-is ∙ ap (λ (x : ℕ). l.mask + x) (shifted 1 l.i (omega arith) (omega arith))) w.left-is
      | else-list_chosen w ↦ next_list 0 l.invariant (omega arith) (omega arith) (ap one_if (sym (told_false c.list_chosen.ensures w.if-list_chosen.false)))
          (omega (arith, w.mask-is)) (omega (arith, w.left-is))
    ]

pub returns : goal.returns
returns c =
    let l = c.loop-i in
    let args = c.args in (
      sym (draw_none (list_hash args.q.now) l.i (2 * args.compared - l.i) l.left l.mask (omega arith)) ∙ l.invariant.rest,
      mask_small l.invariant.small (omega arith),
    )
