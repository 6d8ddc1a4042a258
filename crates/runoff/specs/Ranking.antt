-- Document 02, item 2: what a vote says, and whom it counts for in a round.
use Rattle.std.specs.Prelude.{Bool, true, not, List, [], ◌∷◌, map, ℕ, ◌-◌}
use Rattle.laws.specs.Tests.{equal, differ, at_most, ◌and◌, pick}
use Rattle.laws.specs.Sorting.{count}
use Rattle.protocol.specs.Terms.{item, decimal}

-- ---- what a vote says

-- "A vote's decimal digits, from the left, are candidates 1 to 9." The characters '0' to '9' are 48 to 57.
unfoldable pub ranking : ℕ → List ℕ
ranking vote = map (λ character. character - 48) (decimal vote)

-- "No digit is 0, above the number of candidates or repeated"
unfoldable pub ranks : ℕ → List ℕ → Bool
ranks candidates [] = true
ranks candidates (k ∷ ks) = (at_most 1 k and at_most k candidates) and (equal (count k ks) 0 and ranks candidates ks)

unfoldable pub valid : ℕ → ℕ → Bool
valid candidates vote = ranks candidates (ranking vote)

-- "vote 0 is blank, and any other vote is spoiled."
unfoldable pub blank : ℕ → Bool
blank vote = equal vote 0

unfoldable pub spoiled : ℕ → ℕ → Bool
spoiled candidates vote = differ vote 0 and not (valid candidates vote)

-- ---- whom it counts for: `left` has of each candidate, k at k - 1, the round of leaving, "or 0 if still standing"

unfoldable pub standing : List ℕ → ℕ → Bool
standing left k = equal (item left (k - 1)) 0

-- "its first candidate still standing", by its ranking; 0 where none stands
unfoldable pub first_standing : List ℕ → List ℕ → ℕ
first_standing left [] = 0
first_standing left (k ∷ ks) = pick (standing left k) k (first_standing left ks)

-- "In each round a vote counts for its first candidate still standing."; 0 where it counts for none
unfoldable pub counts_for : ℕ → List ℕ → ℕ → ℕ
counts_for candidates left vote = pick (valid candidates vote) (first_standing left (ranking vote)) 0
