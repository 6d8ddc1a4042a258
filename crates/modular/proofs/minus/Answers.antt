-- `modular::minus` meets its contract: b is at most a, or m is added.
use native.Mathlib.Omega.{arith}
use Rattle.laws.specs.Modular.{minus_over, minus_under}
use Rattle.modular.proofs.minus.Goals as goal

pub returns-then-b-a : goal.returns-then-b-a
returns-then-b-a c = (minus_over _ _ _ (omega arith) (omega arith), omega arith)

pub returns-else-b-a : goal.returns-else-b-a
returns-else-b-a c = (minus_under _ _ _ (omega arith) (omega arith), omega arith)
