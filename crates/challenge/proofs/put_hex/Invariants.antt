-- `challenge::put_hex` meets its contract. The loop: the digits of the bytes passed are written.
use mathlib.Core.Path.{◌≡◌}
use Prim.Native.Nat.{◌+◌, ◌*◌}
use lib.ListN.{take}
use Rattle.laws.specs.Writing.{Went}
use Rattle.protocol.specs.Drawing.{hex_digits}
use Rattle.challenge.proofs.put_hex.Given as goal

abbrev pub invariant-loop-b : goal.invariant-loop-b
invariant-loop-b l = (l.next ≡ l.at + 2 * l.b-index) × Went l.initial.out l.at (hex_digits (take l.b-index l.s)) l.out l.next
