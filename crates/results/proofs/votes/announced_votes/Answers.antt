-- `results::votes::announced_votes` meets its contract: the plain judge's number comes first.
use mathlib.Core.Path.{sym}
use Rattle.results.proofs.Announcing.{votes_refused}
use Rattle.results.proofs.votes.announced_votes.Goals as goal

pub write_votes-requires : goal.write_votes-requires
write_votes-requires c = sym c.in-Ok.ensures

pub returns-in-Err : goal.returns-in-Err
returns-in-Err c =
    let (answer, output) = votes_refused c.args.bytes.now c.args.out.now c.in-Err.fault.rule c.in-Err.ensures in
    record { answer = answer; output = output }
