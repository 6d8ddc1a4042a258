-- `verifier::part_three::end_faults` meets its contract: the end, and then the record's length.
use native.Mathlib.Omega.{arith}
use Rattle.verifier.proofs.Ending.{trailing_stop, trailing_pass}
use Rattle.verifier.proofs.Stages.{err_then, ok_then}
use Rattle.verifier.proofs.part_three.end_faults.Goals as goal

pub returns-in_err-fault : goal.returns-in_err-fault
returns-in_err-fault c = err_then _ _ c.in_err-fault.ensures (grind arith)

pub returns-then-at-r : goal.returns-then-at-r
returns-then-at-r c = ok_then _ _ c.in_ok-fault.ensures (trailing_stop _ _ c.at_end-at.ensures.0 c.if-at-r.true)

pub returns : goal.returns
returns c = ok_then _ _ c.in_ok-fault.ensures (trailing_pass _ _ c.at_end-at.ensures.0 (omega arith))
