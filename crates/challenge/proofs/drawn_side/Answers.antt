-- `challenge::drawn_side` meets its contract: the lowest bit of the last byte.
use mathlib.Core.Path.{ap}
use mathlib.Core.List.{List}
use Prim.Native.Nat.{ℕ, ◌%◌}
use native.Mathlib.Omega.{arith}
use Rattle.protocol.specs.Terms.{item}
use Rattle.protocol.specs.Drawing.{drawn_side}
use Rattle.challenge.proofs.drawn_side.Goals as goal

pub returns : goal.returns
unfolding drawn_side
returns c = (ap (λ (l : List ℕ). item l 27 % 2) c.draw_hash.ensures, omega arith)
