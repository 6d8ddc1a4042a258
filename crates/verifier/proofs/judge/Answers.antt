-- `verifier::judge` meets its contract: the verdict is the rule of the first fault.
use Rattle.std.proofs.Common.{arith}
use Rattle.verifier.proofs.Verdicts.{accepted_is, refused_is}
use Rattle.verifier.proofs.judge.Goals as goal

pub returns : goal.returns
returns c = let s = c.args in grind (arith, accepted_is s.drawn s.bytes.now, refused_is s.drawn s.bytes.now)
