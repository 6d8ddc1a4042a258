-- `refusals::mask_in_shape` meets its contract, in either case.
use mathlib.Core.Path.{refl}
use Rattle.protocol.specs.Election.{mask_in_shape}
use Rattle.refusals.proofs.mask_in_shape.Goals as goal

pub returns-in-Some : goal.returns-in-Some
unfolding mask_in_shape
returns-in-Some c = rw c.in-Some.is (c.right_shape.ensures)

pub returns-in-None : goal.returns-in-None
unfolding mask_in_shape
returns-in-None c = rw c.in-None.is refl
