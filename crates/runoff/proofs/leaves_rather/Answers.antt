-- `runoff::leaves_rather` meets its contract.
use mathlib.Core.Path.{refl}
use native.Mathlib.Omega.{arith}
use Rattle.laws.specs.Tests.{at_most, is_equal, not_equal, or_go, or_stop}
use Rattle.runoff.proofs.leaves_rather.Goals as goal

pub returns-in-Some : goal.returns-in-Some
unfolding at_most
returns-in-Some c = rw c.in-Some.is (or_go _ _ (not_equal (omega (arith, c.requires.1 c.in-Some.o c.in-Some.is))) refl)

pub returns-in-None : goal.returns-in-None
returns-in-None c = rw c.in-None.is (or_stop _ _ (is_equal refl))
