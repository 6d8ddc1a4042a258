-- `limits::ballots_in_limits` meets its contract, one limit after the other.
use Rattle.std.proofs.Common.{arith}
use Rattle.std.proofs.lemmas.Grind.{common_steps}
use Rattle.laws.specs.Tests.{at_most, ◌and◌}
use Rattle.protocol.specs.Terms.{ballots_in_limits}
use Rattle.limits.proofs.ballots_in_limits.Goals as goal

pub returns-then-ballots-ge1 : goal.returns-then-ballots-ge1
unfolding ballots_in_limits at_most ◌and◌
returns-then-ballots-ge1 c = grind (arith, common_steps)

pub returns-else-ballots-ge1 : goal.returns-else-ballots-ge1
unfolding ballots_in_limits at_most ◌and◌
returns-else-ballots-ge1 c = grind (arith, common_steps)
