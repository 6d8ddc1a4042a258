-- The votes that a record which stands announces: n of them, each below M, none smaller than the one before.
use mathlib.Core.Path.{◌≡◌}
use mathlib.Core.List.{List}
use Prim.Native.Nat.{ℕ, suc, ◌≤◌, ◌<◌}
use native.Mathlib.Omega.{arith}
use lib.ListN.{length}
use Rattle.laws.specs.Bytes.{Below}
use Rattle.laws.specs.Permuting.{rises_sorted}
use Rattle.laws.specs.Sorting.{Sorted}
use Rattle.laws.specs.Tables.{length_tabulate, get_tabulate}
use Rattle.protocol.specs.Terms.{item}
use Rattle.protocol.specs.Record.{parameters_of, vote_of}
use Rattle.protocol.specs.Results.{announced_votes}
use Rattle.protocol.specs.Stands.{Stands}

pub announced_length : (r : List ℕ) → length (announced_votes r) ≡ (parameters_of r).ballots
unfolding announced_votes
announced_length r = length_tabulate (vote_of (parameters_of r) r) (parameters_of r).ballots

pub announced_item : (r : List ℕ) (i : ℕ) → i < (parameters_of r).ballots → item (announced_votes r) i ≡ vote_of (parameters_of r) r i
unfolding announced_votes
announced_item r i li = get_tabulate (vote_of (parameters_of r) r) (parameters_of r).ballots i li

module _ (r : List ℕ) (s : Stands r) where
  pub announced_below : Below (parameters_of r).modulus (announced_votes r)
  announced_below i l =
      let li : i < (parameters_of r).ballots = rw (announced_length r) at l in
      rw (announced_item r i li) (s.valid.votes_below i li)

  pub announced_rise : (i : ℕ) → suc i < length (announced_votes r) → item (announced_votes r) i ≤ item (announced_votes r) (suc i)
  announced_rise i l =
      let next : suc i < (parameters_of r).ballots = rw (announced_length r) at l in
      let li : i < (parameters_of r).ballots = omega (arith, next) in
      rw (announced_item r i li, announced_item r (suc i) next) (s.valid.votes_rise i next)

  pub announced_sorted : Sorted (announced_votes r)
  announced_sorted = rises_sorted (announced_votes r) announced_rise
