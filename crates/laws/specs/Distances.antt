-- Two lists of n votes: how many votes they have in common, whichever order they stand in, and in how many places they differ.
use Rattle.std.specs.Prelude.{ℕ, ◌-◌, min}
use Rattle.laws.specs.Sums.{sum, times}

-- "the sum over x of the smaller of the two counts of x"; votes are below M
unfoldable pub common : ℕ → (ℕ → ℕ) → (ℕ → ℕ) → ℕ → ℕ
common M f g n = sum (λ x. min (times x f n) (times x g n)) M

-- "n less" that sum: in how many places they differ, as multisets
unfoldable pub distance : ℕ → (ℕ → ℕ) → (ℕ → ℕ) → ℕ → ℕ
distance M f g n = n - common M f g n
