-- `rules::first_dice_rules` meets its contract: one test after the other.
use mathlib.Core.Path.{◌≡◌, refl, sym, ap, ◌∙◌}
use Prim.Native.Nat.{ℕ}
use Rattle.std.specs.Option.{is_some}
use native.Mathlib.Omega.{arith}
use lib.ListN.{take}
use Rattle.laws.specs.Tests.{equal, ◌implies◌, is_equal, implies_iff, equal_iff, never, refuted}
use Rattle.laws.specs.Faults.{rule, kept, rule_go, rule_stop}
use Rattle.protocol.specs.Layout.{at_first_dice}
use Rattle.protocol.specs.Record.{first_dice_of, mask_of}
use Rattle.protocol.specs.Drawing.{challenge, drawn_mask}
use Rattle.protocol.specs.Rules.{fair_dice, right_shape, first_dice_rules}
use Rattle.rules.specs.Known.{lent}
use Rattle.rules.proofs.first_dice_rules.Goals as goal
use Rattle.rules.proofs.first_dice_rules.Goals.{After-drawn_mask, After-fair_dice, After-read4-mask, After-right_shape, Else-not-right_shape}

fair_read : (c : After-fair_dice) → c.fair_dice.result ≡ fair_dice (first_dice_of c.args.p c.args.bytes.now)
unfolding first_dice_of
fair_read c = rw (← c.requires.here) c.fair_dice.ensures

pub returns-then-not-fair_dice : goal.returns-then-not-fair_dice
unfolding first_dice_rules
returns-then-not-fair_dice c = rule_stop 6 _ _ (sym (fair_read (goal.at.returns-then-not-fair_dice c).After-fair_dice) ∙ c.if-not-fair_dice.true)

mask_read : (c : After-read4-mask) → c.read4-mask.result ≡ mask_of c.args.p c.args.bytes.now
unfolding mask_of
mask_read c = rw (← c.requires.here) c.read4-mask.ensures.0

shape_read : (c : After-right_shape) → c.right_shape.result ≡ right_shape c.args.p.compared (mask_of c.args.p c.args.bytes.now)
shape_read c = rw (← mask_read (goal.at.After-right_shape c).After-read4-mask) c.right_shape.ensures

pub returns-then-not-right_shape : goal.returns-then-not-right_shape
unfolding first_dice_rules
returns-then-not-right_shape c = rule_go 6 _ _ (sym (fair_read (goal.at.returns-then-not-right_shape c).After-fair_dice) ∙ c.if-not-fair_dice.false) (rule_stop 7 _ _ (sym (shape_read (goal.at.returns-then-not-right_shape c).After-right_shape) ∙ c.if-not-right_shape.true))

-- dice and mask are as they should be: rule 8 is left
shaped : (c : Else-not-right_shape) {k : ℕ} →
    (let p = c.args.p in
    let r = c.args.bytes.now in
    k ≡ rule 8 (is_some c.args.text implies equal (mask_of p r) (drawn_mask p.compared (challenge (first_dice_of p r) (take (at_first_dice p) r)))) kept → k ≡ first_dice_rules p r (is_some c.args.text))
unfolding first_dice_rules
shaped c h = rule_go 6 _ _ (sym (fair_read (goal.at.Else-not-right_shape c).After-fair_dice) ∙ c.if-not-fair_dice.false) (rule_go 7 _ _ (sym (shape_read (goal.at.Else-not-right_shape c).After-right_shape) ∙ c.if-not-right_shape.false) h)

drawn_read : (c : After-drawn_mask) →
    (let p = c.args.p in
    let r = c.args.bytes.now in
    c.drawn_mask.result ≡ drawn_mask p.compared (challenge (first_dice_of p r) (take (at_first_dice p) r)))
drawn_read c =
    let text = sym (ap lent c.in-Some.is) ∙ c.requires.known.text_is (ap is_some c.in-Some.is) (omega (arith, c.requires.here, c.requires.whole)) in
    c.drawn_mask.ensures.0 ∙ ap (drawn_mask c.args.p.compared) text

pub returns-then-drawn_mask-mask : goal.returns-then-drawn_mask-mask
returns-then-drawn_mask-mask c =
    let drawn = drawn_read (goal.at.returns-then-drawn_mask-mask c).After-drawn_mask in
    let mask = mask_read (goal.at.returns-then-drawn_mask-mask c).After-read4-mask in
    shaped (goal.at.returns-then-drawn_mask-mask c).Else-not-right_shape
    (rule_stop 8 _ _ (refuted _ (λ e. omega (arith, (equal_iff _ _).0 ((implies_iff _ _).0 e (ap is_some c.in-Some.is))))))

pub returns-else-drawn_mask-mask : goal.returns-else-drawn_mask-mask
returns-else-drawn_mask-mask c =
    let drawn = drawn_read (goal.at.returns-else-drawn_mask-mask c).After-drawn_mask in
    let mask = mask_read (goal.at.returns-else-drawn_mask-mask c).After-read4-mask in
    shaped (goal.at.returns-else-drawn_mask-mask c).Else-not-right_shape (rule_go 8 _ _ ((implies_iff _ _).1 (λ d. is_equal (omega arith))) refl)

pub returns-in_default : goal.returns-in_default
returns-in_default c =
    shaped (goal.at.returns-in_default c).Else-not-right_shape
    (rule_go 8 _ _ ((implies_iff _ _).1 (λ d. absurd (never d (ap is_some c.in_default.is)))) refl)
