-- Inputs that no writer refuses, one by one.
use mathlib.Core.Path.{◌≡◌}
use Prim.Native.Nat.{ℕ, suc, ◌≤◌, ◌<◌}
use lib.ListN.{length}
use Rattle.laws.specs.Bytes.{Below}
use Rattle.laws.specs.Permutations.{Perm}
use Rattle.protocol.specs.Terms.{most_ballots, election_number}
use Rattle.protocol.specs.Layout.{lists}
use Rattle.protocol.specs.Inputs.{Slices, Inputs}

-- what the servers are handed in types of 4 bytes, and no test limits further: the ids, and the election's number
pub record FourBytes (s : Slices) : Type 0 where
  pub ids : Below 4294967296 s.ids
  pub election : election_number s.parameters.form < 4294967296

pub record Good (s : Inputs) : Type 0 where
  pub election_fits : election_number s.parameters.form < 4294967296
  pub modulus_low : 2 ≤ s.parameters.modulus
  pub modulus_high : s.parameters.modulus ≤ 4294967295
  pub ballots_low : 1 ≤ s.parameters.ballots
  pub ballots_high : s.parameters.ballots ≤ most_ballots
  pub compared_low : 1 ≤ s.parameters.compared
  pub compared_high : s.parameters.compared ≤ 12
  pub ids_fit : (j : ℕ) → j < s.parameters.ballots → s.id j < 4294967296
  pub ids_rise : (j : ℕ) → suc j < s.parameters.ballots → s.id j < s.id (suc j)
  pub votes_below : (j : ℕ) → j < s.parameters.ballots → s.vote j < s.parameters.modulus
  pub x_below : (j : ℕ) → j < s.parameters.ballots → s.x j < s.parameters.modulus
  pub y_below : (j : ℕ) → j < s.parameters.ballots → s.y j < s.parameters.modulus
  pub first_halves_below : (j c : ℕ) → j < s.parameters.ballots → c < 3 → s.first_half j c < s.parameters.modulus
  pub offsets_below : (l c k i : ℕ) → l < lists s.parameters → c < 3 → k < 2 → i < s.parameters.ballots → s.offset l c k i < s.parameters.modulus
  pub entry_first_halves_below : (l i c : ℕ) → l < lists s.parameters → i < s.parameters.ballots → c < 3 → s.entry_first_half l i c < s.parameters.modulus
  pub permutations : (l c : ℕ) → l < lists s.parameters → c < 3 → Perm s.parameters.ballots (s.permutation l c)
  pub ballot_keys : (j q : ℕ) → j < s.parameters.ballots → q < 6 → length (s.ballot_key j q) ≡ 32
  pub entry_keys : (l i q : ℕ) → l < lists s.parameters → i < s.parameters.ballots → q < 6 → length (s.entry_key l i q) ≡ 32
