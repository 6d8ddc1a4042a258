-- `results::votes::write_votes` meets its contract: the votes of an accepted record, where the slice has one number a ballot.
use mathlib.Core.Path.{◌≡◌}
use native.Mathlib.Omega.{arith}
use lib.ListN.{length}
use Rattle.results.proofs.Reaching.{accepted_whole, votes_ready}
use Rattle.results.proofs.Announcing.{votes_unfit, votes_written}
use Rattle.results.proofs.votes.write_votes.Goals as goal

pub parameters-p-requires : goal.parameters-p-requires
parameters-p-requires c = accepted_whole _ _ c.requires

pub returns-then-out-p : goal.returns-then-out-p
returns-then-out-p c =
    let (answer, output) = votes_unfit _ _ c.requires c.parameters-p.ensures c.if-out-p.true in
    record { answer = answer; output = output }

pub read_votes-requires : goal.read_votes-requires
read_votes-requires c =
    let asked = c in
    votes_ready _ _ asked.requires asked.parameters-p.ensures (omega arith)

pub returns : goal.returns
returns c =
    let asked = c in
    let s = asked in
    let long : length s.args.out.now ≡ asked.parameters-p.result.ballots = omega arith in
    let (answer, output) = votes_written _ s.args.out.now s.requires asked.parameters-p.ensures long c.read_votes.ensures in
    record { answer = answer; output = output }
