-- The places that a list's links name.
use Rattle.std.specs.Prelude.{◌≡◌, List, ℕ, ◌<◌, length}
use Rattle.protocol.specs.Terms.{item}
use Rattle.protocol.specs.Inputs.{Slices, inputs_of}
use Rattle.protocol.specs.Servers.{link_position}

-- the place of each ballot in list l
pub record PlacesOf (s : Slices) (l : ℕ) (places : List ℕ) : Type 0 where
  pub long : length places ≡ s.parameters.ballots
  pub are : (j : ℕ) → j < s.parameters.ballots → item places j ≡ link_position (inputs_of s) l j
