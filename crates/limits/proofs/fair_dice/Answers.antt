-- `limits::fair_dice` meets its contract: all characters of the piece are fair.
use Rattle.std.proofs.Common.{ap, ◌∙◌, arith}
use Rattle.std.specs.List.{list_all}
use Rattle.laws.specs.Chunks.{piece, length_piece}
use Rattle.laws.specs.Writing.{part_is}
use Rattle.protocol.specs.Rules.{fair_die, fair_dice}
use Rattle.limits.proofs.Every.{all_items}
use Rattle.limits.proofs.fair_dice.Goals as goal

pub returns : goal.returns
unfolding fair_dice
returns c =
    let bytes = c.args.bytes.now in
    let at = c.args.at in
    c.all_fair.ensures ∙ ap (list_all fair_die) (part_is bytes at 30)
    ∙ all_items fair_die (piece bytes at 30) 30 (length_piece bytes at 30 (omega arith))
