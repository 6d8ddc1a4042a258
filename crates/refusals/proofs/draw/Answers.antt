-- `refusals::draw` meets its contract: limits, lengths, then the rest.
use mathlib.Core.Path.{◌≡◌, refl, sym, ◌∙◌}
use mathlib.Core.Bool.{true}
use native.Mathlib.Omega.{arith}
use Rattle.laws.specs.Tests.{and_iff, is_equal, not_equal, and_go, and_stop, told_true, told_false}
use Rattle.laws.specs.Faults.{rule_go, rule_stop}
use Rattle.protocol.specs.Terms.{in_limits}
use Rattle.protocol.specs.Results.{draw_refusal}
use Rattle.refusals.proofs.Tests.{limits_few, fair_whole}
use Rattle.refusals.proofs.draw.Goals as goal
use Rattle.refusals.proofs.draw.Goals.{Else-not-in_limits, then-not-dice_due-via-then-not-dice_due, then-not-dice_due-via-else-not-dice_due+then-one_len-at_first_dice}

limits : (c : Else-not-in_limits) → in_limits c.args.p ≡ true
limits c = told_true c.in_limits.ensures c.if-not-in_limits.false

pub at_first_dice-requires : goal.at_first_dice-requires
at_first_dice-requires c = limits_few _ (limits (goal.at.at_first_dice-requires c).Else-not-in_limits)

pub returns-then-not-in_limits : goal.returns-then-not-in_limits
unfolding draw_refusal
returns-then-not-in_limits c = rule_stop _ _ _ (told_false c.in_limits.ensures c.if-not-in_limits.true)

pub returns-then-not-dice_due : goal.returns-then-not-dice_due
unfolding draw_refusal
returns-then-not-dice_due c =
    rule_go _ _ _ (limits (goal.at.returns-then-not-dice_due c).Else-not-in_limits)
    (rule_stop _ _ _ (elim c.then-not-dice_due.branch [
      | then-not-dice_due-via-then-not-dice_due w ↦ sym (and_stop _ _ (not_equal w.if-not-dice_due.true))
      | then-not-dice_due-via-else-not-dice_due+then-one_len-at_first_dice w ↦ sym (and_go _ _ (is_equal w.if-not-dice_due.false) (sym (not_equal (omega (arith, w.if-one_len-at_first_dice.true, w.at_first_dice.ensures.0)))))
    ]))

pub returns-else-dice_fair : goal.returns-else-dice_fair
unfolding draw_refusal
returns-else-dice_fair c =
    rule_go _ _ _ (limits (goal.at.returns-else-dice_fair c).Else-not-in_limits)
    (rule_go _ _ _ ((and_iff _ _).1 (is_equal c.if-not-dice_due.false, is_equal (omega (arith, c.if-one_len-at_first_dice.false, c.at_first_dice.ensures.0))))
    (rule_stop _ _ _ (told_false (c.fair_dice-dice_fair.ensures ∙ fair_whole _ c.if-not-dice_due.false) c.if-dice_fair.false)))

pub returns-then-dice_fair : goal.returns-then-dice_fair
unfolding draw_refusal
returns-then-dice_fair c =
    rule_go _ _ _ (limits (goal.at.returns-then-dice_fair c).Else-not-in_limits)
    (rule_go _ _ _ ((and_iff _ _).1 (is_equal c.if-not-dice_due.false, is_equal (omega (arith, c.if-one_len-at_first_dice.false, c.at_first_dice.ensures.0))))
    (rule_go _ _ _ (told_true (c.fair_dice-dice_fair.ensures ∙ fair_whole _ c.if-not-dice_due.false) c.if-dice_fair.true) refl))
