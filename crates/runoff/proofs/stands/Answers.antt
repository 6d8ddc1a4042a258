-- `runoff::stands` meets its contract.
use mathlib.Core.Path.{refl}
use Rattle.laws.specs.Tests.{equal}
use Rattle.runoff.specs.Ranking.{standing}
use Rattle.runoff.proofs.stands.Goals as goal

pub returns : goal.returns
unfolding standing equal
returns c = refl
