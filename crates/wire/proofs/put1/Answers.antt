-- `wire::put1` meets its contract: one store.
use native.Mathlib.Omega.{arith}
use Rattle.laws.specs.Bytes.{bytes}
use Rattle.laws.specs.Writing.{put_set, wrote}
use Rattle.wire.proofs.put1.Goals as goal

pub returns : goal.returns
unfolding bytes
returns c = record { wrote = wrote (put_set _ _ _ (omega arith)) (omega arith); to = omega arith }
