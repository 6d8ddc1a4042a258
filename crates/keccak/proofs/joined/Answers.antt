-- The definition computes to what the code makes.
use mathlib.Core.Path.{refl}
use lib.Dec.{lit<}
use Rattle.keccak.specs.Rows.{flat}
use Rattle.keccak.proofs.joined.Goals as goal

pub returns : goal.returns
unfolding flat
returns c = refl
