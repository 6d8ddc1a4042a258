-- `refusals::part_one` meets its contract: limits, lengths, then the rest.
use mathlib.Core.Path.{◌≡◌, refl, sym, ap, ◌∙◌}
use mathlib.Core.Bool.{true}
use native.Mathlib.Omega.{arith}
use Rattle.laws.specs.Tests.{is_equal, not_equal, told_true, told_false}
use Rattle.protocol.specs.Terms.{in_limits}
use Rattle.protocol.specs.Layout.{part_one_length}
use Rattle.protocol.specs.Inputs.{Slices}
use Rattle.protocol.specs.Refusals.{part_one_refusal}
use Rattle.layout.specs.Bounds.{Few}
use Rattle.refusals.proofs.Tests.{limits_few, limits_known, outside, undue, due}
use Rattle.refusals.proofs.part_one.Goals as goal
use Rattle.refusals.proofs.part_one.Goals.{Else-not-in_limits}

same : (c : Else-not-in_limits) → c.s.inside.parameters ≡ c.args.s.now.parameters
same c = ap (λ (s : Slices). s.parameters) c.s.view_is

limits : (c : Else-not-in_limits) → in_limits c.args.s.now.parameters ≡ true
limits c = ap in_limits (sym (same c)) ∙ told_true c.in_limits.ensures c.if-not-in_limits.false

few : (c : Else-not-in_limits) → Few c.s.inside.parameters
few c = limits_few _ (told_true c.in_limits.ensures c.if-not-in_limits.false)

pub refuse-requires : goal.refuse-requires
refuse-requires c = limits_known _ (limits (goal.at.refuse-requires c).Else-not-in_limits)

pub returns-then-not-in_limits : goal.returns-then-not-in_limits
unfolding part_one_refusal
returns-then-not-in_limits c =
    outside _ _ _ _ _ (ap (λ (s : Slices). in_limits s.parameters) (sym c.s.view_is) ∙ told_false c.in_limits.ensures c.if-not-in_limits.true)

pub at_first_dice-requires : goal.at_first_dice-requires
at_first_dice-requires c = few (goal.at.at_first_dice-requires c).Else-not-in_limits

pub returns-then-out_len-at_first_dice : goal.returns-then-out_len-at_first_dice
unfolding part_one_refusal
returns-then-out_len-at_first_dice c =
    let at = (goal.at.returns-then-out_len-at_first_dice c).Else-not-in_limits in
    let long = c.at_first_dice.ensures.0 ∙ ap part_one_length (same at) in
    undue _ _ _ _ _ (limits at) (not_equal (omega (arith, long)))

pub returns : goal.returns
unfolding part_one_refusal
returns c =
    let at = (goal.at.returns c).Else-not-in_limits in
    let long = c.at_first_dice.ensures.0 ∙ ap part_one_length (same at) in
    due _ _ _ _ _ (limits at) (is_equal (omega (arith, long))) refl refl refl c.refuse.ensures
