-- `refusals::sides_due` meets its contract, in either case.
use mathlib.Core.Path.{refl}
use Rattle.laws.specs.Tests.{equal_is}
use Rattle.protocol.specs.Election.{sides_due}
use Rattle.refusals.proofs.sides_due.Goals as goal

pub returns-in-Some : goal.returns-in-Some
unfolding sides_due
returns-in-Some c = rw c.in-Some.is (equal_is _ _)

pub returns-in-None : goal.returns-in-None
unfolding sides_due
returns-in-None c = rw c.in-None.is refl
