-- `verifier::part_two::first_dice_fault` meets its contract: the text is the one that the mask is drawn from, where the command is whole.
use native.Mathlib.Omega.{arith}
use Rattle.protocol.specs.Record.{first_dice_of}
use Rattle.verifier.proofs.Known.{text_at}
use Rattle.verifier.proofs.part_two.first_dice_fault.Goals as goal

pub drawn_fault-requires : goal.drawn_fault-requires
unfolding first_dice_of
drawn_fault-requires c =
    let s = c in
    let at = c.at_first_dice-at.ensures.0 in (
      at,
      record {
        few = s.requires.few.compared;
        text_is = λ d w. text_at s.args.r.bytes.now at c.dice_text-text.ensures d (omega (arith, w)) (s.requires.taken.prefix_is d);
      },
    )
