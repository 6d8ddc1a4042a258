-- `opening_rules::openings_give` meets its contract. The loop: the openings passed give their commitments.
use mathlib.Core.Path.{◌≡◌}
use mathlib.Core.Bool.{Bool, true}
use mathlib.Core.List.{List}
use Prim.Native.Nat.{ℕ, ◌+◌, ◌*◌}
use Rattle.laws.specs.Tests.{every}
use Rattle.laws.specs.Chunks.{piece}
use Rattle.protocol.specs.declared.Parameters.{Parameters}
use Rattle.protocol.specs.declared.Place.{Place}
use Rattle.protocol.specs.Rules.{gives}
use Rattle.commitment.specs.Slots.{in_slot}
use Rattle.opening_rules.specs.Opened.{opening_at}
use Rattle.opening_rules.proofs.openings_give.Given as goal

abbrev pub right : Parameters → Place → List ℕ → ℕ → ℕ → ℕ → ℕ → ℕ → Bool
right p place r at posted from step i = gives p (in_slot place (step * i + from)) (opening_at r at i) (piece r (posted + 32 * (step * i + from)) 32)

abbrev pub invariant-loop-i : goal.invariant-loop-i
invariant-loop-i l = every (right l.p l.place l.bytes l.at l.posted l.from l.step) l.i ≡ true
