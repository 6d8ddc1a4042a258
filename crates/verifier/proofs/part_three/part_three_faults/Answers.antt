-- `verifier::part_three::part_three_faults` meets its contract: the second dice, halves, and then votes and openings.
use Rattle.std.proofs.Common.{arith, sym}
use Rattle.protocol.specs.declared.Due.TheVariants.{SecondDice}
use Rattle.protocol.specs.Record.{second_dice_of}
use Rattle.protocol.specs.Judging.{part_three_faults}
use Rattle.verifier.proofs.Stages.{found_nothing, err_then, ok_then}
use Rattle.verifier.proofs.Known.{stands_whole, text_at}
use Rattle.verifier.proofs.part_three.part_three_faults.Goals as goal

pub returns-in_err-fault : goal.returns-in_err-fault
unfolding part_three_faults
returns-in_err-fault c = err_then _ _ c.in_err-fault.ensures (grind arith)

pub all_half_faults-requires : goal.all_half_faults-requires
unfolding second_dice_of
all_half_faults-requires c =
    let r = c.args.r in
    let whole = stands_whole r.drawn r.parameters r.bytes.now SecondDice ((found_nothing _ _ _ _).0 (sym c.in_ok-fault.ensures)) in
    record {
      links = c.requires.links;
      text_is = λ d. text_at r.bytes.now c.at_second_dice-at.ensures.0 c.dice_text-text.ensures d whole (c.requires.taken.prefix_is d);
    }

pub returns-in_err-all_half_faults : goal.returns-in_err-all_half_faults
unfolding part_three_faults
returns-in_err-all_half_faults c = ok_then _ _ c.in_ok-fault.ensures (err_then _ _ c.in_err-all_half_faults.ensures (grind arith))

pub closing_faults-requires : goal.closing_faults-requires
closing_faults-requires c = c.requires.links.dice

pub returns : goal.returns
unfolding part_three_faults
returns c = ok_then _ _ c.in_ok-fault.ensures (ok_then _ _ c.in_ok-all_half_faults.ensures c.closing_faults.ensures)
