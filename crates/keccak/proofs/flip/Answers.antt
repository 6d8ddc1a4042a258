-- The definition computes to what the code makes.
use mathlib.Core.Path.{refl}
use lib.Dec.{lit<}
use Rattle.keccak.specs.Keccak.{lanes}
use Rattle.keccak.specs.Rows.{flipped, flip_of}
use Rattle.keccak.proofs.flip.Goals as goal

pub returns : goal.returns
unfolding flipped flip_of lanes
returns c = refl
