-- The definition computes to what the code makes.
use mathlib.Core.Path.{refl}
use borrow.Author.Rules.{rules}
use Rattle.keccak.specs.Rows.{row_at}
use Rattle.keccak.proofs.cut.Goals as goal

pub returns : goal.returns
unfolding row_at
returns c = refl
