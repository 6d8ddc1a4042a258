-- `limits::modulus_in_limits` meets its contract: a u32 cannot be above the upper limit.
use mathlib.Core.Path.{◌∙◌}
use native.Mathlib.Omega.{arith}
use Rattle.laws.specs.Tests.{at_most_is, is_at_most, and_last}
use Rattle.protocol.specs.Terms.{modulus_in_limits}
use Rattle.limits.proofs.modulus_in_limits.Goals as goal

pub returns : goal.returns
unfolding modulus_in_limits
returns c = at_most_is _ _ ∙ and_last _ _ (is_at_most (omega arith))
