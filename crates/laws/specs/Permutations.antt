-- Permutations of the places below n, and where a permutation takes its numbers from.
use Rattle.std.specs.Prelude.{◌≡◌, ℕ, zero, suc, ◌<◌, eqb}
use Rattle.laws.specs.Tests.{pick}

-- p 0, .., p (n - 1) are all different, and below n
pub record Perm (n : ℕ) (p : ℕ → ℕ) : Type 0 where
  pub below : (i : ℕ) → i < n → p i < n
  pub apart : (i j : ℕ) → i < n → j < n → p i ≡ p j → i ≡ j

-- the place that p takes to j, below n; 0 where there is none
abbrev pub whence : (ℕ → ℕ) → ℕ → ℕ → ℕ
whence p j zero = 0
whence p j (suc n) = pick (eqb (p n) j) n (whence p j n)
