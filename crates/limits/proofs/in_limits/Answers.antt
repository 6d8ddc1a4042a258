-- `limits::in_limits` meets its contract, one limit after the other.
use Rattle.std.proofs.Common.{arith}
use Rattle.std.proofs.lemmas.Grind.{common_steps}
use Rattle.laws.specs.Tests.{at_most, ◌and◌}
use Rattle.protocol.specs.Terms.{ballots_in_limits, lists_in_limits, in_limits}
use Rattle.limits.proofs.in_limits.Goals as goal

pub returns-then-p-ge1 : goal.returns-then-p-ge1
unfolding in_limits ballots_in_limits lists_in_limits at_most ◌and◌
returns-then-p-ge1 c = grind (arith, common_steps)

pub returns-else-p-ge1 : goal.returns-else-p-ge1
unfolding in_limits ballots_in_limits lists_in_limits at_most ◌and◌
returns-else-p-ge1 c = grind (arith, common_steps)
