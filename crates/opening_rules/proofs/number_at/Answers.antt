-- `opening_rules::number_at` meets its contract: the number stands behind the key.
use mathlib.Core.Path.{sym, ◌∙◌}
use Prim.Native.Nat.{◌+◌, ◌*◌}
use native.Mathlib.Omega.{arith}
use Rattle.laws.specs.At.{number_piece}
use Rattle.protocol.specs.Terms.{opened}
use Rattle.opening_rules.proofs.number_at.Goals as goal

pub returns : goal.returns
unfolding opened
returns c = (c.read4.ensures.0 ∙ sym (number_piece c.args.bytes.now (c.args.at + 36 * c.args.i) 36 32 4 (omega arith)), omega arith)
