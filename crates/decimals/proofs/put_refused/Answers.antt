-- `decimals::put_refused` meets its contract: the word, the number and the line's end, one behind the other.
use native.Mathlib.Omega.{arith}
use Rattle.laws.specs.Writing.{go_on}
use Rattle.decimals.proofs.Digits.{decimal_length}
use Rattle.decimals.proofs.put_refused.Goals as goal

pub put_decimal-end-requires : goal.put_decimal-end-requires
put_decimal-end-requires c =
    omega (arith, decimal_length c.args.number, c.requires, c.copy-at.ensures.to, c.copy-at.ensures.wrote.long)

pub copy-requires : goal.copy-requires
copy-requires c =
    omega (
      arith,
      decimal_length c.args.number,
      c.requires,
      c.copy-at.ensures.to,
      c.copy-at.ensures.wrote.long,
      c.put_decimal-end.ensures.to,
      c.put_decimal-end.ensures.wrote.long,
    )

pub returns : goal.returns
returns c =
    go_on c.copy-at.ensures (go_on c.put_decimal-end.ensures c.copy.ensures)
