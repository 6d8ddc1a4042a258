-- `limits::fair_die` meets its contract.
use Rattle.std.proofs.Common.{arith}
use Rattle.std.proofs.lemmas.Grind.{common_steps}
use Rattle.laws.specs.Tests.{at_most, ◌and◌}
use Rattle.protocol.specs.Rules.{fair_die}
use Rattle.limits.proofs.fair_die.Goals as goal

pub returns : goal.returns
unfolding fair_die at_most ◌and◌
returns c = grind (arith, common_steps)
