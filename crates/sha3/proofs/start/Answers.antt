-- The definition computes to what the code makes.
use mathlib.Core.Path.{refl}
use Rattle.sha3.specs.Sha3.{empty}
use Rattle.sha3.proofs.start.Goals as goal

pub returns : goal.returns
unfolding empty
returns c = refl
