-- `refusals::sides_binary` meets its contract, in either case.
use mathlib.Core.Path.{refl}
use Rattle.refusals.specs.Contents.{binary_where}
use Rattle.refusals.proofs.sides_binary.Goals as goal

pub returns-in-Some : goal.returns-in-Some
unfolding binary_where
returns-in-Some c = rw c.in-Some.is (c.binary_sides.ensures)

pub returns-in-None : goal.returns-in-None
unfolding binary_where
returns-in-None c = rw c.in-None.is refl
