-- What is not refused of a vote, its numbers and what is lent.
use Rattle.std.specs.Prelude.{◌≡◌, ℕ, ◌<◌}

pub record CastReady (M w x y u1 u2 u3 keys_length command_length : ℕ) : Type 0 where
  pub vote_below : w < M
  pub x_below : x < M
  pub y_below : y < M
  pub u1_below : u1 < M
  pub u2_below : u2 < M
  pub u3_below : u3 < M
  pub keys_long : keys_length ≡ 192
  pub command_long : command_length ≡ 197
