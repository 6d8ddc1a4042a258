-- `runoff::winner_among` meets its contract: the winner among the first n candidates.
use mathlib.Core.Path.{refl, ap, ◌∙◌}
use native.Mathlib.Omega.{arith}
use Rattle.runoff.specs.Rounds.{candidate, winner_among}
use Rattle.runoff.proofs.Outcomes.{some_is, winner_next, winner_before}
use Rattle.runoff.proofs.winner_among.Goals.{then-all-counts, else-all-counts}
use Rattle.runoff.proofs.winner_among.Goals as goal

pub loop-n-init : goal.loop-n-init
unfolding winner_among
loop-n-init c = refl

pub loop-n-preserved : goal.loop-n-preserved
loop-n-preserved c =
    elim c.if-all-counts.branch [
      | then-all-counts w ↦ w.winner-is ∙ some_is _ (omega arith) ∙ ap candidate (winner_next _ _ _ w.if-all-counts.true)
      | else-all-counts w ↦ w.winner-is ∙ c.loop-n.invariant ∙ ap candidate (winner_before _ _ _ w.if-all-counts.false)
    ]
