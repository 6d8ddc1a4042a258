-- `verifier::part_one::ballots_passed` meets its contract: no ballot passed has a fault.
use Rattle.std.proofs.Common.{arith}
use Rattle.laws.specs.Faults.{first_more, row_start}
use Rattle.verifier.proofs.part_one.ballots_passed.Goals as goal

pub loop-j-init : goal.loop-j-init
loop-j-init c = row_start _

pub loop-j-preserved : goal.loop-j-preserved
loop-j-preserved c = first_more _ _ c.loop-j.invariant (grind arith)
