-- `runoff::next` meets its contract: a round from the counts of the votes.
use mathlib.Core.Path.{sym, ◌∙◌}
use native.Mathlib.Omega.{arith}
use Rattle.std.proofs.lemmas.Option.{none-some}
use Rattle.runoff.proofs.Onward.{none_most, number_most, leaver_small, left_gone, left_kept, next_is}
use Rattle.runoff.proofs.next.Goals.{then-over, else-over}
use Rattle.runoff.proofs.next.Goals as goal

pub overflow_sub-all : goal.overflow_sub-all
overflow_sub-all c = none_most _ _ c.args.s c.requires.0 c.count_round-support.ensures

pub leave-requires : goal.leave-requires
leave-requires c = λ k e.
    elim c.if-over.branch [
      | then-over w ↦ absurd (none-some k (sym w.leaver-is ∙ e))
      | else-over w ↦
          leaver_small _ _ c.args.s c.requires.0 c.count_round-support.ensures c.winner_among-winner.ensures c.is_decided-over.ensures
          w.fewest_among-leaver.ensures w.if-over.false k (sym w.leaver-is ∙ e)
    ]

pub overflow_cast-result : goal.overflow_cast-result
overflow_cast-result c =
    omega (arith, number_most _ _ c.args.s c.requires.0 c.count_round-support.ensures c.winner_among-winner.ensures c.unwrap_or.ensures)

pub returns : goal.returns
returns c =
    next_is _ _ c.args.s c.requires.0 c.count_round-support.ensures c.winner_among-winner.ensures c.is_decided-over.ensures
    c.counts_after-counts.ensures
    (elim c.if-over.branch [
      | then-over w ↦
          left_kept _ _ c.args.s c.requires.0 c.count_round-support.ensures c.winner_among-winner.ensures c.is_decided-over.ensures
          w.if-over.true (rw w.leaver-is at c.leave.ensures)
      | else-over w ↦
          left_gone _ _ c.args.s c.requires.0 c.count_round-support.ensures c.winner_among-winner.ensures c.is_decided-over.ensures
          w.fewest_among-leaver.ensures w.if-over.false (rw w.leaver-is at c.leave.ensures)
    ])
    c.unwrap_or.ensures
