-- The definition computes to what the code makes.
use mathlib.Core.Path.{refl}
use borrow.Author.Rules.{rules}
use Rattle.keccak.specs.Rows.{summed}
use Rattle.keccak.proofs.gather.Goals as goal

pub returns : goal.returns
unfolding summed
returns c = refl
