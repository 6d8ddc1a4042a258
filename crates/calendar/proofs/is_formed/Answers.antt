-- `calendar::is_formed` meets its contract: all characters so far are in their places.
use mathlib.Core.Path.{◌≡◌, refl, ap, sym, ◌∙◌}
use native.Mathlib.Omega.{arith}
use Rattle.laws.specs.Tests.{every, every_more}
use Rattle.protocol.specs.Terms.{item}
use Rattle.calendar.specs.Arguments.{placed}
use Rattle.calendar.proofs.Formed.{formed_short, formed_not, formed_by}
use Rattle.calendar.proofs.is_formed.Goals as goal

pub returns-then-argument-ne10 : goal.returns-then-argument-ne10
returns-then-argument-ne10 c = formed_short _ (λ e. omega arith)

pub loop-i-init : goal.loop-i-init
unfolding every
loop-i-init c = (omega arith, refl)

pub returns-then-not-is_placed : goal.returns-then-not-is_placed
returns-then-not-is_placed c = formed_not _ c.loop-i.i (omega arith) (sym c.is_placed.ensures ∙ c.if-not-is_placed.true)

pub loop-i-preserved : goal.loop-i-preserved
loop-i-preserved c =
    let at = c.loop-i in
    (at.invariant.0, every_more (λ i. placed i (item c.args.argument.now i)) at.i at.invariant.1 (sym c.is_placed.ensures ∙ c.if-not-is_placed.false))

pub returns : goal.returns
returns c =
    let at = c.loop-i in
    let ten : at.i ≡ 10 = omega arith in
    formed_by _ at.invariant.0 (sym (ap (every (λ i. placed i (item c.args.argument.now i))) ten) ∙ at.invariant.1)
