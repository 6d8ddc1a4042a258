-- `columns::refuse` meets its contract, one rule after the other.
use Rattle.std.proofs.Common.{arith}
use Rattle.std.proofs.lemmas.Grind.{common_steps}
use Rattle.laws.specs.Tests.{◌and◌}
use Rattle.laws.specs.Faults.{rule}
use Rattle.columns.specs.Ready.{column_refusal}
use Rattle.columns.proofs.refuse.Goals as goal

pub returns-then-not-ballots_in_limits : goal.returns-then-not-ballots_in_limits
unfolding column_refusal rule ◌and◌
returns-then-not-ballots_in_limits c = grind (arith, common_steps)

pub returns-then-not-all_due : goal.returns-then-not-all_due
unfolding column_refusal rule ◌and◌
returns-then-not-all_due c = grind (arith, common_steps)

pub returns-then-not-all_below : goal.returns-then-not-all_below
unfolding column_refusal rule ◌and◌
returns-then-not-all_below c = grind (arith, common_steps)

pub returns : goal.returns
unfolding column_refusal rule ◌and◌
returns c = grind (arith, common_steps)
