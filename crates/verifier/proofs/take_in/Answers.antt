-- `verifier::take_in` meets its contract: the sponge takes the part in where something is drawn.
use Rattle.laws.specs.Tests.{never}
use Rattle.verifier.proofs.take_in.Goals as goal

pub returns : goal.returns
returns c = (c.requires.1.1, λ d. absurd (never d c.if-r.false))
