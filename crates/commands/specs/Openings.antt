-- The openings of six numbers, each with its key of six.
use Rattle.std.specs.Prelude.{List, ℕ, ◌*◌}
use Rattle.laws.specs.Chunks.{piece}
use Rattle.protocol.specs.Terms.{item, opening}

unfoldable pub opening_of : List ℕ → List ℕ → ℕ → List ℕ
opening_of six keys q = opening (piece keys (32 * q) 32) (item six q)
