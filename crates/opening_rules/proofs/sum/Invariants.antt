-- `opening_rules::sum` meets its contract. The loop: the numbers passed are summed.
use mathlib.Core.Path.{◌≡◌}
use Prim.Native.Nat.{◌<◌}
use Rattle.opening_rules.specs.Opened.{opening_at, sum_of}
use Rattle.opening_rules.proofs.sum.Given as goal

abbrev pub invariant-loop-i : goal.invariant-loop-i
invariant-loop-i l = (l.sum ≡ sum_of l.modulus (opening_at l.bytes l.at) l.i) × (l.sum < l.modulus)
