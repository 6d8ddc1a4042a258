-- `refusals::part_three_length` meets its contract: within the limits nothing wraps.
use mathlib.Core.Path.{refl}
use Rattle.protocol.specs.Layout.{part_three_length}
use Rattle.refusals.proofs.part_three_length.Goals as goal

pub returns : goal.returns
unfolding part_three_length
returns c = refl
