-- `wire::compare32` meets its contract. The loop: the first k words are equal, as one number.
use mathlib.Core.Path.{◌≡◌}
use Prim.Native.Nat.{◌*◌}
use Rattle.laws.specs.Bytes.{number}
use Rattle.wire.proofs.compare32.Given as goal

abbrev pub invariant-loop-k : goal.invariant-loop-k
invariant-loop-k l = number l.a l.i (8 * l.k) ≡ number l.b l.j (8 * l.k)
