-- `teller::put_counted` meets its contract: a refused number of candidates, or the rounds of an accepted record, which has at most 4,096 ballots.
use mathlib.Core.Path.{◌≡◌, ◌∙◌}
use mathlib.Core.Bool.{true}
use mathlib.Core.List.{List}
use Prim.Native.Nat.{ℕ, ◌≤◌}
use native.Mathlib.Omega.{arith}
use lib.ListN.{length-take}
use Rattle.laws.specs.Faults.{Nothing}
use Rattle.laws.specs.Writing.{go_same}
use Rattle.protocol.specs.declared.Parameters.{Parameters}
use Rattle.protocol.specs.Terms.{most_ballots}
use Rattle.protocol.specs.Record.{parameters_of}
use Rattle.protocol.specs.Judging.{first_fault}
use Rattle.results.proofs.Reaching.{accepted_whole, accepted_few, votes_ready}
use Rattle.runoff.proofs.Running.{fitting}
use Rattle.teller.proofs.Paged.{counted_refused, counted_read}
use Rattle.teller.proofs.put_counted.Goals as goal

pub returns-in-Err : goal.returns-in-Err
returns-in-Err c = go_same c.put_refused.ensures (counted_refused _ _ _ (c.number.ensures.0 ∙ c.in-Err.ensures) (omega (arith, c.number.ensures)))

pub parameters-p-requires : goal.parameters-p-requires
parameters-p-requires c = accepted_whole _ _ c.requires.0

-- the number of ballots is within its limit
few : (r : List ℕ) {p : Parameters} → first_fault true r ≡ Nothing → p ≡ parameters_of r → p.ballots ≤ most_ballots
few r e is = rw is (accepted_few _ _ e)

pub slice_bounds-votes-end : goal.slice_bounds-votes-end
slice_bounds-votes-end c = omega (arith, few _ c.requires.0 c.parameters-p.ensures)

pub slice_bounds-put_votes-end : goal.slice_bounds-put_votes-end
slice_bounds-put_votes-end c = simp length-take (omega (arith, few _ c.requires.0 c.parameters-p.ensures))

pub put_votes-requires : goal.put_votes-requires
put_votes-requires c = record {
  votes = votes_ready _ _ c.requires.0 c.parameters-p.ensures (simp length-take (omega (arith, few _ c.requires.0 c.parameters-p.ensures)));
  few = (fitting _ _ c.in-Ok.ensures).0;
  room = c.requires.1;
}

pub returns-in-Ok : goal.returns-in-Ok
returns-in-Ok c = go_same c.put_votes.ensures (counted_read _ _ c.in-Ok.ensures c.parameters-p.ensures)
