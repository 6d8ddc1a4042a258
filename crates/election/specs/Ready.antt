-- What parts two and three of an election ask, where nothing is refused.
use Rattle.std.specs.Prelude.{◌≡◌, true, List, ℕ, length}
use Rattle.protocol.specs.Layout.{part_two_length, part_three_length}
use Rattle.protocol.specs.Rules.{right_shape}
use Rattle.protocol.specs.Inputs.{Slices}
use Rattle.protocol.specs.Election.{Choice, mask_in_shape, sides_due, sides_binary}
use Rattle.mixing.specs.Passed.{Passed}

pub record SecondReady (s : Slices) (by_mask : Choice ℕ) (dice : List ℕ) (out_length : ℕ) : Type 0 where
  pub passed : Passed s
  pub dice_long : length dice ≡ 30
  pub shape : mask_in_shape s.parameters by_mask ≡ true
  pub out_long : out_length ≡ part_two_length s.parameters

pub record ThirdReady (s : Slices) (mask : ℕ) (by_sides : Choice (List ℕ)) (dice : List ℕ) (out_length : ℕ) : Type 0 where
  pub passed : Passed s
  pub dice_long : length dice ≡ 30
  pub shape : right_shape s.parameters.compared mask ≡ true
  pub sides_long : sides_due s.parameters by_sides ≡ true
  pub binary : sides_binary s by_sides ≡ true
  pub out_long : out_length ≡ part_three_length s.parameters
