-- `wire::fill_numbers` meets its contract. The loop: what is passed is written.
use mathlib.Core.List.{List}
use Prim.Native.Nat.{ℕ, ◌+◌, ◌*◌}
use Rattle.laws.specs.Bytes.{number}
use Rattle.laws.specs.Tables.{Filled}
use Rattle.wire.proofs.fill_numbers.Given as goal

abbrev pub read : List ℕ → ℕ → ℕ → ℕ → ℕ
read r at step i = number r (at + step * i) 4

abbrev pub invariant-loop-i : goal.invariant-loop-i
invariant-loop-i l = Filled (read l.s l.at l.step) l.i l.initial.out l.out
