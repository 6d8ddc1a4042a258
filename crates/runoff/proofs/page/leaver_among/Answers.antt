-- `runoff::page::leaver_among` meets its contract: who has left in the round among the first n candidates.
use Rattle.std.proofs.Common.{◌≡◌, ◌≤◌, ℕ, refl, sym, ap, ◌∙◌, arith, length-take-le, get_or-take}
use Rattle.runoff.specs.Rounds.{candidate}
use Rattle.runoff.specs.Page.{leaver_among}
use Rattle.runoff.proofs.Lines.{leaver_next, leaver_before}
use Rattle.runoff.proofs.page.leaver_among.Goals.{then-gone-round, else-gone-round}
use Rattle.runoff.proofs.page.leaver_among.Goals as goal

pub loop-n-init : goal.loop-n-init
unfolding leaver_among
loop-n-init c = refl

pub loop-n-preserved : goal.loop-n-preserved
loop-n-preserved c =
    let few : c.args.candidates ≤ 9 = c.requires in
    let same = get_or-take c.args.candidates c.args.left.now c.loop-n.n 0 (omega (arith, length-take-le c.args.candidates c.args.left.now (omega arith))) in
    elim c.if-gone-round.branch [
      | then-gone-round w ↦ w.leaver-is ∙ leaver_next _ _ _ (sym same ∙ w.if-gone-round.true)
      | else-gone-round w ↦ w.leaver-is ∙ c.loop-n.invariant ∙ leaver_before _ _ _ (λ e. w.if-gone-round.false (same ∙ e))
    ]

pub returns : goal.returns
returns c =
    let all : c.loop-n.n ≡ c.args.candidates = omega (arith, length-take-le c.args.candidates c.args.left.now (omega arith)) in
    c.loop-n.invariant ∙ ap (λ (n : ℕ). candidate (leaver_among c.args.left.now c.args.round n)) all
