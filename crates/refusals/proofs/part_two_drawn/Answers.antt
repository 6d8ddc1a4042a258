-- `refusals::part_two_drawn` meets its contract: limits, lengths, then the rest.
use mathlib.Core.Path.{◌≡◌, refl, sym, ap, ◌∙◌}
use mathlib.Core.Bool.{true}
use native.Mathlib.Omega.{arith}
use Rattle.laws.specs.Tests.{and_iff, is_equal, not_equal, and_go, and_stop, told_true, told_false}
use Rattle.protocol.specs.Terms.{in_limits}
use Rattle.protocol.specs.Layout.{part_one_length, part_two_length}
use Rattle.protocol.specs.Inputs.{Slices}
use Rattle.protocol.specs.Refusals.{part_two_drawn_refusal}
use Rattle.layout.specs.Bounds.{Few}
use Rattle.refusals.proofs.Tests.{limits_few, limits_known, outside, undue, due, fair_whole}
use Rattle.refusals.proofs.part_two_drawn.Goals as goal
use Rattle.refusals.proofs.part_two_drawn.Goals.{Else-not-in_limits, then-not-dice_due-via-then-not-dice_due, then-not-dice_due-via-else-not-dice_due+then-one_len-at_first_dice, then-not-dice_due-via-else-not-dice_due+else-one_len-at_first_dice+then-out_len-part_two_length}

same : (c : Else-not-in_limits) → c.s.inside.parameters ≡ c.args.s.now.parameters
same c = ap (λ (s : Slices). s.parameters) c.s.view_is

limits : (c : Else-not-in_limits) → in_limits c.args.s.now.parameters ≡ true
limits c = ap in_limits (sym (same c)) ∙ told_true c.in_limits.ensures c.if-not-in_limits.false

few : (c : Else-not-in_limits) → Few c.s.inside.parameters
few c = limits_few _ (told_true c.in_limits.ensures c.if-not-in_limits.false)

pub refuse-requires : goal.refuse-requires
refuse-requires c = limits_known _ (limits (goal.at.refuse-requires c).Else-not-in_limits)

pub returns-then-not-in_limits : goal.returns-then-not-in_limits
unfolding part_two_drawn_refusal
returns-then-not-in_limits c =
    outside _ _ _ _ _ (ap (λ (s : Slices). in_limits s.parameters) (sym c.s.view_is) ∙ told_false c.in_limits.ensures c.if-not-in_limits.true)

pub at_first_dice-requires : goal.at_first_dice-requires
at_first_dice-requires c = few (goal.at.at_first_dice-requires c).Else-not-in_limits

pub part_two_length-requires : goal.part_two_length-requires
part_two_length-requires c = few (goal.at.part_two_length-requires c).Else-not-in_limits

pub returns-then-not-dice_due : goal.returns-then-not-dice_due
unfolding part_two_drawn_refusal
returns-then-not-dice_due c =
    let at = (goal.at.returns-then-not-dice_due c).Else-not-in_limits in
    let here : c.s.inside.parameters ≡ c.args.s.now.parameters = same at in
    undue _ _ _ _ _ (limits at)
    (elim c.then-not-dice_due.branch [
      | then-not-dice_due-via-then-not-dice_due w ↦ sym (and_stop _ _ (not_equal w.if-not-dice_due.true))
      | then-not-dice_due-via-else-not-dice_due+then-one_len-at_first_dice w ↦ sym (and_go _ _ (is_equal w.if-not-dice_due.false) (and_stop _ _ (not_equal (omega (arith, w.if-one_len-at_first_dice.true, w.at_first_dice.ensures.0, ap part_one_length here)))))
      | then-not-dice_due-via-else-not-dice_due+else-one_len-at_first_dice+then-out_len-part_two_length w ↦ sym (and_go _ _ (is_equal w.if-not-dice_due.false) (and_go _ _ (is_equal (omega (arith, w.if-one_len-at_first_dice.false, w.at_first_dice.ensures.0, ap part_one_length here))) (sym (not_equal (omega (arith, w.if-out_len-part_two_length.true, w.part_two_length.ensures, ap part_two_length here))))))
    ])

pub returns : goal.returns
unfolding part_two_drawn_refusal
returns c =
    let at = (goal.at.returns c).Else-not-in_limits in
    let here : c.s.inside.parameters ≡ c.args.s.now.parameters = same at in
    due _ _ _ _ _ (limits at) ((and_iff _ _).1 (is_equal c.if-not-dice_due.false, (and_iff _ _).1 (is_equal (omega (arith, c.if-one_len-at_first_dice.false, c.at_first_dice.ensures.0, ap part_one_length here)), is_equal (omega (arith, c.if-out_len-part_two_length.false, c.part_two_length.ensures, ap part_two_length here)))))
    (c.fair_dice.ensures ∙ fair_whole _ c.if-not-dice_due.false)
    refl refl c.refuse.ensures
