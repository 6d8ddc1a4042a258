-- `verifier::part_two::part_two_faults` meets its contract: the first dice, and then links.
use Rattle.std.proofs.Common.{arith, sym}
use Rattle.protocol.specs.Judging.{part_two_faults}
use Rattle.verifier.proofs.Stages.{found_nothing, err_then, ok_then}
use Rattle.verifier.proofs.part_two.part_two_faults.Goals as goal

pub returns-in_err-first_dice_fault : goal.returns-in_err-first_dice_fault
unfolding part_two_faults
returns-in_err-first_dice_fault c = err_then _ _ c.in_err-first_dice_fault.ensures (grind arith)

pub compared_faults-requires : goal.compared_faults-requires
compared_faults-requires c = record { few = c.requires.few; first_dice = (found_nothing _ _ _ _).0 (sym c.in_ok-first_dice_fault.ensures) }

pub returns : goal.returns
unfolding part_two_faults
returns c = ok_then _ _ c.in_ok-first_dice_fault.ensures c.compared_faults.ensures
