-- `columns::refuse_pair` meets its contract: its slices' lengths are the due ones.
use Rattle.std.proofs.Common.{arith}
use Rattle.std.proofs.lemmas.Grind.{common_steps}
use Rattle.laws.specs.Tests.{◌and◌, equal}
use Rattle.protocol.specs.Columns.{pair_refusal}
use Rattle.columns.specs.Ready.{column_refusal}
use Rattle.columns.proofs.refuse_pair.Goals as goal

pub returns : goal.returns
unfolding pair_refusal column_refusal ◌and◌ equal
returns c = grind (arith, common_steps)
