-- `refusals::election` meets its contract: limits, lengths, then the rest.
use mathlib.Core.Path.{◌≡◌, sym, ap, ◌∙◌}
use mathlib.Core.Bool.{true}
use Prim.Native.Nat.{ℕ, ◌+◌}
use native.Mathlib.Omega.{arith}
use Rattle.laws.specs.Tests.{and_iff, is_equal, not_equal, and_go, and_stop, told_true, told_false}
use Rattle.protocol.specs.declared.Parameters.{Parameters}
use Rattle.protocol.specs.Terms.{in_limits}
use Rattle.protocol.specs.Layout.{record_length, part_one_length, part_two_length, part_three_length}
use Rattle.protocol.specs.Inputs.{Slices}
use Rattle.protocol.specs.Election.{mask_in_shape, sides_due, election_refusal}
use Rattle.protocol.specs.Election.{choice_in, sides_lent}
use Rattle.layout.specs.Bounds.{Few}
use Rattle.refusals.proofs.Tests.{limits_few, limits_known, outside, undue, due, fair_whole, binary_where_lem}
use Rattle.refusals.proofs.election.Goals as goal
use Rattle.refusals.proofs.election.Goals.{Else-not-in_limits, then-fair_dice, else-fair_dice, then-not-first_due-via-then-not-first_due, then-not-first_due-via-else-not-first_due+then-not-second_due, then-not-first_due-via-else-not-first_due+else-not-second_due+then-not-sides_due, then-not-first_due-via-else-not-first_due+else-not-second_due+else-not-sides_due+then-one_len-at_first_dice, then-not-first_due-via-else-not-first_due+else-not-second_due+else-not-sides_due+else-one_len-at_first_dice+then-two_len-part_two_length, then-not-first_due-via-else-not-first_due+else-not-second_due+else-not-sides_due+else-one_len-at_first_dice+else-two_len-part_two_length+then-three_len-part_three_length, then-not-first_due-via-else-not-first_due+else-not-second_due+else-not-sides_due+else-one_len-at_first_dice+else-two_len-part_two_length+else-three_len-part_three_length+then-joined_len-at_end}

same : (c : Else-not-in_limits) → c.s.inside.parameters ≡ c.args.s.now.parameters
same c = ap (λ (s : Slices). s.parameters) c.s.view_is

limits : (c : Else-not-in_limits) → in_limits c.args.s.now.parameters ≡ true
limits c = ap in_limits (sym (same c)) ∙ told_true c.in_limits.ensures c.if-not-in_limits.false

few : (c : Else-not-in_limits) → Few c.s.inside.parameters
few c = limits_few _ (told_true c.in_limits.ensures c.if-not-in_limits.false)

pub refuse-requires : goal.refuse-requires
refuse-requires c = limits_known _ (limits (goal.at.refuse-requires c).Else-not-in_limits)

pub returns-then-not-in_limits : goal.returns-then-not-in_limits
unfolding election_refusal
returns-then-not-in_limits c =
    outside _ _ _ _ _ (ap (λ (s : Slices). in_limits s.parameters) (sym c.s.view_is) ∙ told_false c.in_limits.ensures c.if-not-in_limits.true)

pub at_first_dice-requires : goal.at_first_dice-requires
at_first_dice-requires c = few (goal.at.at_first_dice-requires c).Else-not-in_limits

pub part_two_length-requires : goal.part_two_length-requires
part_two_length-requires c = few (goal.at.part_two_length-requires c).Else-not-in_limits

pub part_three_length-requires : goal.part_three_length-requires
part_three_length-requires c = few (goal.at.part_three_length-requires c).Else-not-in_limits

pub at_end-requires : goal.at_end-requires
at_end-requires c = few (goal.at.at_end-requires c).Else-not-in_limits

pub mask_in_shape-requires : goal.mask_in_shape-requires
mask_in_shape-requires c = few (goal.at.mask_in_shape-requires c).Else-not-in_limits

pub returns-then-not-first_due : goal.returns-then-not-first_due
unfolding election_refusal
returns-then-not-first_due c =
    let at = (goal.at.returns-then-not-first_due c).Else-not-in_limits in
    let here : c.s.inside.parameters ≡ c.args.s.now.parameters = same at in
    undue _ _ _ _ _ (limits at)
    (elim c.then-not-first_due.branch [
      | then-not-first_due-via-then-not-first_due w ↦ sym (and_stop _ _ (not_equal w.if-not-first_due.true))
      | then-not-first_due-via-else-not-first_due+then-not-second_due w ↦ sym (and_go _ _ (is_equal w.if-not-first_due.false) (and_stop _ _ (not_equal w.if-not-second_due.true)))
      | then-not-first_due-via-else-not-first_due+else-not-second_due+then-not-sides_due w ↦ sym (and_go _ _ (is_equal w.if-not-first_due.false) (and_go _ _ (is_equal w.if-not-second_due.false) (and_stop _ _ (ap (λ (p : Parameters). sides_due p (sides_lent c.args.sides)) (sym here) ∙ told_false w.sides_due.ensures w.if-not-sides_due.true))))
      | then-not-first_due-via-else-not-first_due+else-not-second_due+else-not-sides_due+then-one_len-at_first_dice w ↦ sym (and_go _ _ (is_equal w.if-not-first_due.false) (and_go _ _ (is_equal w.if-not-second_due.false) (and_go _ _ (ap (λ (p : Parameters). sides_due p (sides_lent c.args.sides)) (sym here) ∙ told_true w.sides_due.ensures w.if-not-sides_due.false) (and_stop _ _ (not_equal (omega (arith, w.if-one_len-at_first_dice.true, w.at_first_dice.ensures.0, ap part_one_length here)))))))
      | then-not-first_due-via-else-not-first_due+else-not-second_due+else-not-sides_due+else-one_len-at_first_dice+then-two_len-part_two_length w ↦ sym (and_go _ _ (is_equal w.if-not-first_due.false) (and_go _ _ (is_equal w.if-not-second_due.false) (and_go _ _ (ap (λ (p : Parameters). sides_due p (sides_lent c.args.sides)) (sym here) ∙ told_true w.sides_due.ensures w.if-not-sides_due.false) (and_go _ _ (is_equal (omega (arith, w.if-one_len-at_first_dice.false, w.at_first_dice.ensures.0, ap part_one_length here))) (and_stop _ _ (not_equal (omega (arith, w.if-two_len-part_two_length.true, w.part_two_length.ensures, ap part_two_length here))))))))
      | then-not-first_due-via-else-not-first_due+else-not-second_due+else-not-sides_due+else-one_len-at_first_dice+else-two_len-part_two_length+then-three_len-part_three_length w ↦ sym (and_go _ _ (is_equal w.if-not-first_due.false) (and_go _ _ (is_equal w.if-not-second_due.false) (and_go _ _ (ap (λ (p : Parameters). sides_due p (sides_lent c.args.sides)) (sym here) ∙ told_true w.sides_due.ensures w.if-not-sides_due.false) (and_go _ _ (is_equal (omega (arith, w.if-one_len-at_first_dice.false, w.at_first_dice.ensures.0, ap part_one_length here))) (and_go _ _ (is_equal (omega (arith, w.if-two_len-part_two_length.false, w.part_two_length.ensures, ap part_two_length here))) (and_stop _ _ (not_equal (omega (arith, w.if-three_len-part_three_length.true, w.part_three_length.ensures, ap part_three_length here)))))))))
      | then-not-first_due-via-else-not-first_due+else-not-second_due+else-not-sides_due+else-one_len-at_first_dice+else-two_len-part_two_length+else-three_len-part_three_length+then-joined_len-at_end w ↦ sym (and_go _ _ (is_equal w.if-not-first_due.false) (and_go _ _ (is_equal w.if-not-second_due.false) (and_go _ _ (ap (λ (p : Parameters). sides_due p (sides_lent c.args.sides)) (sym here) ∙ told_true w.sides_due.ensures w.if-not-sides_due.false) (and_go _ _ (is_equal (omega (arith, w.if-one_len-at_first_dice.false, w.at_first_dice.ensures.0, ap part_one_length here))) (and_go _ _ (is_equal (omega (arith, w.if-two_len-part_two_length.false, w.part_two_length.ensures, ap part_two_length here))) (and_go _ _ (is_equal (omega (arith, w.if-three_len-part_three_length.false, w.part_three_length.ensures, ap part_three_length here))) (sym (not_equal (omega (arith, w.if-joined_len-at_end.true, ap (λ (k : ℕ). k + 1) w.at_end.ensures.0, ap record_length here))))))))))
    ])

pub returns : goal.returns
unfolding election_refusal
returns c =
    let at = (goal.at.returns c).Else-not-in_limits in
    let here : c.s.inside.parameters ≡ c.args.s.now.parameters = same at in
    due _ _ _ _ _ (limits at) ((and_iff _ _).1 (is_equal c.if-not-first_due.false, (and_iff _ _).1 (is_equal c.if-not-second_due.false, (and_iff _ _).1 (ap (λ (p : Parameters). sides_due p (sides_lent c.args.sides)) (sym here) ∙ told_true c.sides_due.ensures c.if-not-sides_due.false, (and_iff _ _).1 (is_equal (omega (arith, c.if-one_len-at_first_dice.false, c.at_first_dice.ensures.0, ap part_one_length here)), (and_iff _ _).1 (is_equal (omega (arith, c.if-two_len-part_two_length.false, c.part_two_length.ensures, ap part_two_length here)), (and_iff _ _).1 (is_equal (omega (arith, c.if-three_len-part_three_length.false, c.part_three_length.ensures, ap part_three_length here)), is_equal (omega (arith, c.if-joined_len-at_end.false, ap (λ (k : ℕ). k + 1) c.at_end.ensures.0, ap record_length here)))))))))
    (elim c.if-fair_dice.branch [
      | then-fair_dice w ↦ w.fair-is
          ∙ and_go _ _ (told_true (c.fair_dice.ensures ∙ fair_whole _ c.if-not-first_due.false) w.if-fair_dice.true)
          (w.fair_dice-fair.ensures ∙ fair_whole _ c.if-not-second_due.false)
      | else-fair_dice w ↦ w.fair-is ∙ w.if-fair_dice.false
          ∙ and_stop _ _ (told_false (c.fair_dice.ensures ∙ fair_whole _ c.if-not-first_due.false) w.if-fair_dice.false)
    ])
    (c.mask_in_shape.ensures ∙ ap (λ (p : Parameters). mask_in_shape p (choice_in c.args.mask)) here)
    (c.sides_binary.ensures ∙ binary_where_lem _ _ (ap (λ (p : Parameters). sides_due p (sides_lent c.args.sides)) (sym here) ∙ told_true c.sides_due.ensures c.if-not-sides_due.false)) c.refuse.ensures
