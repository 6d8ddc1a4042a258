-- `runoff::page::put_named` meets its contract: the sign and the number, one behind the other.
use native.Mathlib.Omega.{arith}
use Rattle.laws.specs.Bytes.{bytes, length_bytes}
use Rattle.laws.specs.Writing.{go_on}
use Rattle.decimals.proofs.Digits.{decimal_length}
use Rattle.runoff.specs.Page.{named}
use Rattle.runoff.proofs.page.put_named.Goals as goal

pub put_decimal-requires : goal.put_decimal-requires
put_decimal-requires c =
    omega (arith, decimal_length c.args.k, length_bytes 1 35, c.requires, c.put1-next.ensures.to, c.put1-next.ensures.wrote.long)

pub returns : goal.returns
unfolding named bytes
returns c =
    go_on c.put1-next.ensures c.put_decimal.ensures
