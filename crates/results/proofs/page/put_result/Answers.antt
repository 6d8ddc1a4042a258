-- `results::page::put_result` meets its contract: an accepted record has at most 4,096 ballots, and its votes rise.
use Prim.Native.Nat.{◌≤◌}
use native.Mathlib.Omega.{arith}
use lib.ListN.{length-take}
use Rattle.protocol.specs.Terms.{most_ballots}
use Rattle.results.proofs.Reaching.{accepted_whole, accepted_few, votes_ready, votes_rise}
use Rattle.results.proofs.page.put_result.Goals as goal
use Rattle.results.proofs.page.put_result.Goals.{After-parameters-p}

pub parameters-p-requires : goal.parameters-p-requires
parameters-p-requires c = accepted_whole _ _ c.requires.0

-- the number of ballots is within its limit
few : (c : After-parameters-p) → c.parameters-p.result.ballots ≤ most_ballots
few c = rw c.parameters-p.ensures (accepted_few _ _ c.requires.0)

pub slice_bounds-votes-end : goal.slice_bounds-votes-end
slice_bounds-votes-end c = omega (arith, few (goal.at.slice_bounds-votes-end c).After-parameters-p)

pub slice_bounds-put_announced-end : goal.slice_bounds-put_announced-end
slice_bounds-put_announced-end c = simp length-take (omega (arith, few (goal.at.slice_bounds-put_announced-end c).After-parameters-p))

pub slice_bounds-values-end : goal.slice_bounds-values-end
slice_bounds-values-end c = omega (arith, few (goal.at.slice_bounds-values-end c).After-parameters-p)

pub slice_bounds-put_announced-end-2 : goal.slice_bounds-put_announced-end-2
slice_bounds-put_announced-end-2 c = simp length-take (omega (arith, few (goal.at.slice_bounds-put_announced-end-2 c).After-parameters-p))

pub slice_bounds-counts-end : goal.slice_bounds-counts-end
slice_bounds-counts-end c = omega (arith, few (goal.at.slice_bounds-counts-end c).After-parameters-p)

pub slice_bounds-put_announced-end-3 : goal.slice_bounds-put_announced-end-3
slice_bounds-put_announced-end-3 c = simp length-take (omega (arith, few (goal.at.slice_bounds-put_announced-end-3 c).After-parameters-p))

pub put_announced-requires : goal.put_announced-requires
put_announced-requires c =
    let asked = c in
    let s = asked in
    let low = few (goal.at.put_announced-requires asked).After-parameters-p in
    record {
      votes = votes_ready _ _ s.requires.0 asked.parameters-p.ensures (simp length-take (omega (arith, low)));
      values_long = simp length-take (omega (arith, low));
      counts_long = simp length-take (omega (arith, low));
      rises = votes_rise _ _ s.requires.0;
      room = s.requires.1;
    }
