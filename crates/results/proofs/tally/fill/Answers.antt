-- `results::tally::fill` meets its contract: the first i votes are tallied.
use mathlib.Core.Path.{sym, ◌∙◌}
use native.Mathlib.Omega.{arith}
use Rattle.results.proofs.Tallied.{OneMore, none_tallied, new_tallied, again_tallied, all_tallied}
use Rattle.results.proofs.tally.fill.Goals as goal
use Rattle.results.proofs.tally.fill.Goals.{Else-is_fresh, then-is_fresh, else-is_fresh}

pub loop-i-init : goal.loop-i-init
loop-i-init c = none_tallied _ _ _

-- the vote of this turn equals the one before
one_more : (c : Else-is_fresh) → let at = c in let args = at.args in
    OneMore args.votes.now args.values.now args.counts.now at.loop-i.i at.loop-i.values at.loop-i.counts at.loop-i.pairs
one_more c =
    let at = c in
    again_tallied _ at.requires at.loop-i.invariant (omega arith) (sym c.is_fresh.ensures ∙ c.if-is_fresh.false)

pub overflow_sub-last : goal.overflow_sub-last
overflow_sub-last c = omega (arith, (one_more c).some)

pub offset_bounds-counts-last : goal.offset_bounds-counts-last
offset_bounds-counts-last c = omega (arith, (one_more c).some)

pub bounds-counts-last : goal.bounds-counts-last
bounds-counts-last c = omega (arith, (one_more (goal.at.bounds-counts-last c).Else-is_fresh).some)

pub overflow_add-counts : goal.overflow_add-counts
overflow_add-counts c = omega (arith, (one_more (goal.at.overflow_add-counts c).Else-is_fresh).at_most)

pub bounds-counts-last-else-is_fresh : goal.bounds-counts-last-else-is_fresh
bounds-counts-last-else-is_fresh c = omega (arith, (one_more (goal.at.bounds-counts-last-else-is_fresh c).Else-is_fresh).some)

pub loop-i-preserved : goal.loop-i-preserved
loop-i-preserved c =
    let before = c.loop-i.invariant in
    elim c.if-is_fresh.branch [
      | then-is_fresh w ↦
          rw (w.values-is, w.counts-is, w.pairs-is) (new_tallied _ c.requires before (omega arith) (sym c.is_fresh.ensures ∙ w.if-is_fresh.true))
      | else-is_fresh w ↦
          rw (w.values-is, w.counts-is, w.pairs-is) (again_tallied _ c.requires before (omega arith) (sym c.is_fresh.ensures ∙ w.if-is_fresh.false)).tallied
    ]

pub shape_of-values : goal.shape_of-values
shape_of-values c = c.loop-i.invariant.in_values.long

pub shape_of-counts : goal.shape_of-counts
shape_of-counts c = c.loop-i.invariant.in_counts.long

pub returns : goal.returns
returns c =
    let (values, (counts, answer)) = all_tallied _ c.requires c.loop-i.invariant (omega arith) in
    record { values = values; counts = counts; answer = answer }
