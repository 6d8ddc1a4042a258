-- The openings of six numbers.
use mathlib.Core.Path.{◌≡◌, ap}
use mathlib.Core.List.{List}
use Prim.Native.Nat.{ℕ, ◌+◌, ◌-◌, ◌*◌, ◌<◌}
use native.Mathlib.Omega.{arith}
use lib.ListN.{length, take, drop}
use Rattle.laws.specs.Chunks.{length_piece}
use Rattle.laws.specs.Writing.{part_is}
use Rattle.protocol.specs.Terms.{item, opening}
use Rattle.protocol.proofs.Honesty.{length_opening}
use Rattle.commands.specs.Openings.{opening_of}

-- as code makes it, of the part of the keys that it lends
pub opening_is : (six keys : List ℕ) (q : ℕ) → opening (take (32 * q + 32 - 32 * q) (drop (32 * q) keys)) (item six q) ≡ opening_of six keys q
unfolding opening_of
opening_is six keys q = ap (λ (key : List ℕ). opening key (item six q)) (part_is keys (32 * q) 32)

pub length_opening_of : (six keys : List ℕ) (q : ℕ) → length keys ≡ 192 → q < 6 → length (opening_of six keys q) ≡ 36
unfolding opening_of
length_opening_of six keys q long h = length_opening _ _ (length_piece keys (32 * q) 32 (omega arith))
