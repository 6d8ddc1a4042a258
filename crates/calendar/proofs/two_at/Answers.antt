-- `calendar::two_at` meets its contract.
use native.Mathlib.Omega.{arith}
use Rattle.calendar.specs.Arguments.{two_at}
use Rattle.calendar.proofs.two_at.Goals as goal

pub returns : goal.returns
unfolding two_at
returns c =
    let tens = c.digit.ensures in
    let ones = c.digit-2.ensures in
    (omega (arith, tens.0, ones.0), omega (arith, tens.1, ones.1))
