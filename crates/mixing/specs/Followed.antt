-- What following a list entry asks: what every writer has tested before it writes.
use Rattle.std.specs.Prelude.{◌≡◌, List, [], ◌∷◌, ℕ, ◌+◌, ◌*◌, ◌≤◌, ◌<◌, length}
use Rattle.laws.specs.Bytes.{Below}
use Rattle.laws.specs.Modular.{plus}
use Rattle.laws.specs.Permutations.{Perm}
use Rattle.protocol.specs.declared.Parameters.{Parameters}
use Rattle.protocol.specs.Terms.{item, most_ballots}
use Rattle.protocol.specs.Layout.{lists}
use Rattle.protocol.specs.Inputs.{Slices, inputs_of}

-- list l of those that there are
pub record InList (p : Parameters) (l : ℕ) : Type 0 where
  pub few : p.ballots ≤ most_ballots
  pub few_lists : p.compared ≤ 12
  pub list : l < lists p

-- three permutations for each list
pub record Places (s : Slices) : Type 0 where
  pub long : length s.permutations ≡ 6 * (s.parameters.compared * s.parameters.ballots)
  pub perms : (l c : ℕ) → l < lists s.parameters → c < 3 → Perm s.parameters.ballots ((inputs_of s).permutation l c)

-- a vote below M for each ballot
pub record Votes (s : Slices) : Type 0 where
  pub long : length s.votes ≡ s.parameters.ballots
  pub small : Below s.parameters.modulus s.votes

-- numbers below M: five for each ballot, nine for each list entry
pub record Numbers (s : Slices) : Type 0 where
  pub few : s.parameters.ballots ≤ most_ballots
  pub positive : 0 < s.parameters.modulus
  pub long : length s.numbers ≡ 5 * s.parameters.ballots + 18 * (s.parameters.compared * s.parameters.ballots)
  pub small : Below s.parameters.modulus s.numbers

-- three numbers that stand one behind the other
abbrev pub three_at : List ℕ → ℕ → List ℕ
three_at l at = item l at ∷ item l (at + 1) ∷ item l (at + 2) ∷ []

-- .. and summed
abbrev pub sum_of_items : ℕ → List ℕ → ℕ
sum_of_items M u = plus M (plus M (item u 0) (item u 1)) (item u 2)
