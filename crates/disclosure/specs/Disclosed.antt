-- What the writers of part three ask.
use Rattle.std.specs.Prelude.{◌≡◌, true, List, ℕ, ◌+◌, ◌*◌, ◌^◌, ◌≤◌, ◌<◌, length}
use Rattle.std.specs.Int.Count.{ones}
use Rattle.laws.specs.Masks.{bit, set_before}
use Rattle.protocol.specs.Terms.{item}
use Rattle.protocol.specs.Layout.{lists, part_three_length}
use Rattle.protocol.specs.Rules.{right_shape}
use Rattle.protocol.specs.Inputs.{Slices, inputs_of}
use Rattle.protocol.specs.Refusals.{binary_sides}
use Rattle.protocol.specs.Servers.{link_position}
use Rattle.mixing.specs.Passed.{Passed}

-- slices that pass every test, with a mask of the right shape
pub record Shaped (s : Slices) (mask : ℕ) : Type 0 where
  pub passed : Passed s
  pub counted : ones mask ≡ s.parameters.compared
  pub small : mask < 2 ^ lists s.parameters

-- the place of each ballot in the compared lists below l: those of a list behind those of the compared lists before it
pub record Placed (s : Slices) (mask l : ℕ) (places : List ℕ) : Type 0 where
  pub long : s.parameters.compared * s.parameters.ballots ≤ length places
  pub is : (k j : ℕ) → k < l → bit mask k ≡ 1 → j < s.parameters.ballots
      → item places (set_before mask k * s.parameters.ballots + j) ≡ link_position (inputs_of s) k j

-- a side for each ballot
pub record Sided (s : Slices) (sides : List ℕ) : Type 0 where
  pub long : length sides ≡ s.parameters.ballots
  pub binary : (j : ℕ) → j < s.parameters.ballots → item sides j ≤ 1

-- slices that pass every test, with dice, a mask of the right shape, and a buffer of the due length: sides are drawn
pub record Drawable (s : Slices) (dice : List ℕ) (mask out_length : ℕ) : Type 0 where
  pub passed : Passed s
  pub dice_long : length dice ≡ 30
  pub shape : right_shape s.parameters.compared mask ≡ true
  pub out_long : out_length ≡ part_three_length s.parameters

-- .. and sides given
pub record Writable (s : Slices) (dice : List ℕ) (mask : ℕ) (sides : List ℕ) (out_length : ℕ) : Type 0 where
  pub passed : Passed s
  pub dice_long : length dice ≡ 30
  pub shape : right_shape s.parameters.compared mask ≡ true
  pub sides_long : length sides ≡ s.parameters.ballots
  pub binary : binary_sides s sides ≡ true
  pub out_long : out_length ≡ part_three_length s.parameters
