-- `comparison::write` meets its contract: the dice and the mask, and the links behind them, fill the buffer.
use native.Mathlib.Omega.{arith}
use Rattle.protocol.proofs.Widths.{length_first_dice}
use Rattle.comparison.proofs.Compared.{part_written}
use Rattle.comparison.proofs.write.Goals as goal

pub put_compared-requires : goal.put_compared-requires
put_compared-requires c =
    let first = c.put_first_dice-next.ensures in
    let (passed, (is30, (shape, long))) = c.requires in
    (passed, (shape, omega (arith, length_first_dice c.args.dice.now c.args.mask is30, long, first.to, first.wrote.long)))

pub returns : goal.returns
returns c =
    let (passed, (is30, (shape, long))) = c.requires in
    part_written c.args.s.now c.args.mask shape c.args.dice.now is30 long c.put_first_dice-next.ensures c.put_compared.ensures
