-- `wire::read4` meets its contract: two halves make the number.
use native.Mathlib.Omega.{arith}
use Rattle.wire.proofs.Halves.{read_on}
use Rattle.wire.proofs.read4.Goals as goal

pub returns : goal.returns
returns c = (read_on _ _ 2 2 c.read2.ensures.0 c.read2-2.ensures.0, omega arith)
