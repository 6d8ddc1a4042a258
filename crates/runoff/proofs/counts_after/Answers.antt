-- `runoff::counts_after` meets its contract: the first i counts are written.
use mathlib.Core.Path.{refl, sym, ◌∙◌}
use native.Mathlib.Omega.{arith}
use Rattle.laws.specs.Tables.{none_filled, one_filled, all_filled}
use Rattle.runoff.specs.Rounds.{last_counts}
use Rattle.runoff.proofs.Outcomes.{picked, unpicked}
use Rattle.runoff.proofs.Table.{last_is}
use Rattle.runoff.proofs.counts_after.Goals.{then-stands, else-stands}
use Rattle.runoff.proofs.counts_after.Goals as goal

pub loop-i-init : goal.loop-i-init
loop-i-init c = none_filled _ _

pub loop-i-preserved : goal.loop-i-preserved
loop-i-preserved c =
    let args = c.args in
    one_filled _ c.loop-i.invariant (omega arith)
    (last_is args.left.now args.round.now args.counts.now c.loop-i.i (elim c.if-stands.branch [
      | then-stands w ↦ w.after-is ∙ sym (picked _ _ (sym c.stands.ensures ∙ w.if-stands.true))
      | else-stands w ↦ w.after-is ∙ sym (unpicked _ _ (sym c.stands.ensures ∙ w.if-stands.false))
    ]))

pub returns : goal.returns
unfolding last_counts
returns c = all_filled 9 c.loop-i.invariant (omega arith) refl
