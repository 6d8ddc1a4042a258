-- `verifier::part_three::closing_faults` meets its contract: votes, full openings, and then the end.
use Rattle.std.proofs.Common.{arith, sym}
use Rattle.verifier.proofs.Stages.{err_then, ok_then}
use Rattle.verifier.proofs.part_three.closing_faults.Goals as goal

pub returns-in_err-vote_faults : goal.returns-in_err-vote_faults
returns-in_err-vote_faults c = err_then _ _ c.in_err-vote_faults.ensures (grind arith)

pub opened_faults-requires : goal.opened_faults-requires
opened_faults-requires c = record { dice = c.requires; votes = sym c.in_ok-vote_faults.ensures }

pub returns-in_err-opened_faults : goal.returns-in_err-opened_faults
returns-in_err-opened_faults c = ok_then _ _ c.in_ok-vote_faults.ensures (err_then _ _ c.in_err-opened_faults.ensures (grind arith))

pub returns : goal.returns
returns c = ok_then _ _ c.in_ok-vote_faults.ensures (ok_then _ _ c.in_ok-opened_faults.ensures c.end_faults.ensures)
