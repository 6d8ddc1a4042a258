-- What is asked of openings that stand one behind the other.
use Rattle.std.specs.Prelude.{◌≡◌, true, List, ℕ, zero, suc, ◌+◌, ◌*◌, ◌≤◌, ◌<◌, length}
use Rattle.laws.specs.Bytes.{number}
use Rattle.laws.specs.Modular.{plus}
use Rattle.laws.specs.Chunks.{piece}
use Rattle.protocol.specs.Terms.{most_ballots, opened}
use Rattle.protocol.specs.Rules.{numbers_below}

-- opening i of those that stand one behind the other from a place on
abbrev pub opening_at : List ℕ → ℕ → ℕ → List ℕ
opening_at r at i = piece r (at + 36 * i) 36

-- the numbers of k openings, summed
unfoldable pub sum_of : ℕ → (ℕ → List ℕ) → ℕ → ℕ
sum_of M o zero = 0
sum_of M o (suc k) = plus M (sum_of M o k) (opened (o k))

-- k openings and the commitments that they are to give lie in the record
pub record Openings (r : List ℕ) (at posted from step k : ℕ) : Type 0 where
  pub few : k ≤ 6
  pub opened : at + 36 * k ≤ length r
  pub committed : (i : ℕ) → i < k → posted + 32 * (step * i + from) + 32 ≤ length r

-- n full openings from a place on, their numbers below the modulus
pub record ListReady (r : List ℕ) (at modulus n : ℕ) : Type 0 where
  pub few : n ≤ most_ballots
  pub whole : at + 220 * n ≤ length r
  pub numbers : (i : ℕ) → i < n → numbers_below modulus (opening_at r (at + 220 * i + 4)) 6 ≡ true

-- with as many announced votes, none smaller than the one before
pub record PermutesReady (r : List ℕ) (at announced modulus values votes : ℕ) : Type 0 where
  pub list : ListReady r at modulus values
  pub as_many : votes ≡ values
  pub votes_whole : (i : ℕ) → i < values → announced + 7 * i + 4 ≤ length r
  pub rise : (i : ℕ) → suc i < values → number r (announced + 7 * i) 4 ≤ number r (announced + 7 * suc i) 4
