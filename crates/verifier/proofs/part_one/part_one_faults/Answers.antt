-- `verifier::part_one::part_one_faults` meets its contract: ballots, and then entries.
use Rattle.std.proofs.Common.{arith}
use Rattle.protocol.specs.Judging.{part_one_faults}
use Rattle.verifier.proofs.Stages.{err_then, ok_then}
use Rattle.verifier.proofs.part_one.part_one_faults.Goals as goal

pub returns-in_err-judged_ballots : goal.returns-in_err-judged_ballots
unfolding part_one_faults
returns-in_err-judged_ballots c = err_then _ _ c.in_err-judged_ballots.ensures (grind arith)

pub returns : goal.returns
unfolding part_one_faults
returns c = ok_then _ _ c.in_ok-judged_ballots.ensures c.list_faults.ensures
