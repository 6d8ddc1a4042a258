-- `wire::read2` meets its contract: two bytes make the number.
use native.Mathlib.Omega.{arith}
use Rattle.wire.proofs.Halves.{read_on}
use Rattle.wire.proofs.read2.Goals as goal

pub returns : goal.returns
returns c = (read_on _ _ 1 1 c.read1.ensures.0 c.read1-2.ensures.0, omega arith)
