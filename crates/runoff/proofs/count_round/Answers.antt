-- `runoff::count_round` meets its contract: the votes before this one are counted.
use native.Mathlib.Omega.{arith}
use Rattle.runoff.proofs.Tallying.{number_for, number_small, one_tallied, all_tallied}
use Rattle.runoff.proofs.count_round.Goals as goal

pub offset_bounds-counts-k : goal.offset_bounds-counts-k
offset_bounds-counts-k c = omega (arith, number_small _ _ _ c.requires c.counts_for.ensures c.unwrap_or-k.ensures)

pub bounds-counts-k : goal.bounds-counts-k
bounds-counts-k c = omega (arith, number_small _ _ _ c.requires c.counts_for.ensures c.unwrap_or-k.ensures)

pub bounds-counts-k-in-loop-vote : goal.bounds-counts-k-in-loop-vote
bounds-counts-k-in-loop-vote c = omega (arith, number_small _ _ _ c.requires c.counts_for.ensures c.unwrap_or-k.ensures)

pub loop-vote-preserved : goal.loop-vote-preserved
loop-vote-preserved c =
    one_tallied _ _ _ _ c.loop-vote.invariant c.loop-vote-test.true (number_for _ _ _ c.counts_for.ensures c.unwrap_or-k.ensures)
    (number_small _ _ _ c.requires c.counts_for.ensures c.unwrap_or-k.ensures)

pub returns : goal.returns
returns c = all_tallied _ _ _ c.loop-vote.invariant (omega arith)
