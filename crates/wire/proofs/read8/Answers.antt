-- `wire::read8` meets its contract: two halves make the number.
use native.Mathlib.Omega.{arith}
use Rattle.wire.proofs.Halves.{read_on}
use Rattle.wire.proofs.read8.Goals as goal

pub returns : goal.returns
returns c = (read_on _ _ 4 4 c.half.ensures.0 c.half-2.ensures.0, omega arith)
