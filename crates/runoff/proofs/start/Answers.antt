-- `runoff::start` meets its contract.
use mathlib.Core.Path.{refl}
use Rattle.runoff.specs.Rounds.{start}
use Rattle.runoff.proofs.start.Goals as goal

pub returns : goal.returns
unfolding start
returns c = refl
