-- `mixing::fill_places` meets its contract: the first i places are written, each at the ballot that it holds.
use mathlib.Core.Path.{◌≡◌}
use Prim.Native.Nat.{ℕ, ◌<◌}
use Rattle.protocol.specs.Terms.{item}
use Rattle.protocol.specs.Inputs.{inputs_of}
use Rattle.protocol.specs.Servers.{source_of}
use Rattle.mixing.proofs.fill_places.Given as goal

abbrev pub invariant-loop-i : goal.invariant-loop-i
invariant-loop-i l = (x : ℕ) → x < l.i → item l.out (source_of (inputs_of l.s) l.l x) ≡ x
