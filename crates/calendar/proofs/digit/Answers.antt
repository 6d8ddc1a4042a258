-- `calendar::digit` meets its contract.
use native.Mathlib.Omega.{arith}
use Rattle.calendar.proofs.Formed.{digit_is}
use Rattle.calendar.proofs.digit.Goals as goal

pub overflow_sub-c : goal.overflow_sub-c
overflow_sub-c c = (digit_is _ c.requires).0

pub returns : goal.returns
returns c = (c.from.ensures, omega (arith, c.from.ensures, (digit_is _ c.requires).1))
