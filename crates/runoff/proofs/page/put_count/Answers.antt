-- `runoff::page::put_count` meets its contract: the word, the number and the line's end, one behind the other.
use native.Mathlib.Omega.{arith}
use Rattle.laws.specs.Bytes.{bytes}
use Rattle.laws.specs.Writing.{go_on}
use Rattle.decimals.proofs.Digits.{decimal_length}
use Rattle.runoff.specs.Page.{count_line}
use Rattle.runoff.proofs.page.put_count.Goals as goal

pub put_decimal-end-requires : goal.put_decimal-end-requires
put_decimal-end-requires c =
    omega (arith, decimal_length c.args.count, c.requires, c.copy-number.ensures.to, c.copy-number.ensures.wrote.long)

pub put1-requires : goal.put1-requires
put1-requires c =
    omega (
      arith,
      decimal_length c.args.count,
      c.requires,
      c.copy-number.ensures.to,
      c.copy-number.ensures.wrote.long,
      c.put_decimal-end.ensures.to,
      c.put_decimal-end.ensures.wrote.long,
    )

pub returns : goal.returns
unfolding count_line bytes
returns c =
    go_on (go_on c.copy-number.ensures c.put_decimal-end.ensures) c.put1.ensures
