-- `modular::plus` meets its contract: a reaches what is missing from b to m, or it does not.
use native.Mathlib.Omega.{arith}
use Rattle.laws.specs.Modular.{plus_over, plus_under}
use Rattle.modular.proofs.plus.Goals as goal

pub returns-then-room-a : goal.returns-then-room-a
returns-then-room-a c = (plus_over _ _ _ (omega arith) (omega arith) (omega arith), omega arith)

pub returns-else-room-a : goal.returns-else-room-a
returns-else-room-a c = (plus_under _ _ _ (omega arith), omega arith)
