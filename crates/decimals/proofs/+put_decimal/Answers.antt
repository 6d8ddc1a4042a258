-- `decimals::put_decimal` meets its contract: one digit, or the last behind those of x / 10.
use native.Mathlib.Omega.{arith}
use Rattle.laws.specs.Writing.{go_on, go_same}
use Rattle.decimals.proofs.Digits.{decimal_one, decimal_more, decimal_one_long, decimal_more_long}
use Rattle.decimals.proofs.+put_decimal.Goals as goal

pub put1-requires : goal.put1-requires
put1-requires t c = omega (arith, decimal_one_long c.args.x (omega arith))

pub returns-then-x-lt10 : goal.returns-then-x-lt10
returns-then-x-lt10 t c = go_same c.put1.ensures (decimal_one c.args.x (omega arith))

pub put_decimal-next-requires : goal.put_decimal-next-requires
put_decimal-next-requires t c = (omega arith, omega (arith, decimal_more_long c.args.x (omega arith) (omega arith)))

pub put1-requires-2 : goal.put1-requires-2
put1-requires-2 t c = omega (arith, decimal_more_long c.args.x (omega arith) (omega arith))

pub returns : goal.returns
returns t c =
    go_same (go_on c.put_decimal-next.ensures c.put1-2.ensures) (decimal_more c.args.x (omega arith) (omega arith))
