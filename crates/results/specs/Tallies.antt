-- What is ready to be tallied: votes that do not fall, and outputs of their length.
use Rattle.std.specs.Prelude.{◌≡◌, List, ℕ, suc, ◌≤◌, ◌<◌, length}
use Rattle.protocol.specs.Terms.{item}

pub record TallyReady (votes : List ℕ) (values_length counts_length : ℕ) : Type 0 where
  pub values_long : values_length ≡ length votes
  pub counts_long : counts_length ≡ length votes
  pub rises : (i : ℕ) → suc i < length votes → item votes i ≤ item votes (suc i)
