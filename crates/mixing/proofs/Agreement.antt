-- Slices that no writer refuses have what following asks; and what a function reads of its inputs is what their value has.
use mathlib.Core.Path.{◌≡◌, ap}
use mathlib.Core.Bool.{Bool}
use Prim.Native.Nat.{ℕ, ◌*◌, ◌<◌}
use native.Mathlib.Omega.{arith}
use Rattle.protocol.specs.Inputs.{Slices}
use Rattle.protocol.proofs.Unrefused.{Unrefused}
use Rattle.mixing.specs.Followed.{InList, Places, Votes, Numbers}

module _ {a b : Slices} (e : a ≡ b) where
  pub parameters_same : a.parameters ≡ b.parameters
  parameters_same = ap (λ (s : Slices). s.parameters) e

  pub modulus_same : a.parameters.modulus ≡ b.parameters.modulus
  modulus_same = ap (λ (s : Slices). s.parameters.modulus) e

  pub ballots_same : a.parameters.ballots ≡ b.parameters.ballots
  ballots_same = ap (λ (s : Slices). s.parameters.ballots) e

  pub compared_same : a.parameters.compared ≡ b.parameters.compared
  compared_same = ap (λ (s : Slices). s.parameters.compared) e

module _ (s : Slices) {lengths fair shape binary : Bool} (u : Unrefused s lengths fair shape binary) where
  pub votes : Votes s
  votes = record { long = u.votes_long; small = u.votes_below }

  pub numbers : Numbers s
  numbers = record { few = u.ballots_high; positive = omega arith; long = u.numbers_long; small = u.numbers_below }

  pub places : Places s
  places = record { long = u.permutations_long; perms = u.permutations }

  pub in_list : {l : ℕ} → l < 2 * s.parameters.compared → InList s.parameters l
  in_list h = record { few = u.ballots_high; few_lists = u.compared_high; list = h }
