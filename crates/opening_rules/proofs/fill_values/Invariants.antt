-- `opening_rules::fill_values` meets its contract. The loop: what is passed is written.
use mathlib.Core.List.{List}
use Prim.Native.Nat.{ℕ, ◌+◌, ◌*◌}
use Rattle.laws.specs.Tables.{Filled}
use Rattle.protocol.specs.Terms.{sum_of_six}
use Rattle.opening_rules.specs.Opened.{opening_at}
use Rattle.opening_rules.proofs.fill_values.Given as goal

abbrev pub value : ℕ → List ℕ → ℕ → ℕ → ℕ
value M r at i = sum_of_six M (opening_at r (at + 220 * i + 4))

abbrev pub invariant-loop-i : goal.invariant-loop-i
invariant-loop-i l = Filled (value l.modulus l.bytes l.at) l.i l.initial.out l.out
