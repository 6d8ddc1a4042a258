-- What the functions that read a record need: it reaches so far, and a lent slice has its length.
use Rattle.std.specs.Prelude.{◌≡◌, List, ℕ, suc, ◌+◌, ◌*◌, ◌≤◌, length}
use Rattle.protocol.specs.declared.Parameters.{Parameters}
use Rattle.protocol.specs.Terms.{most_ballots}
use Rattle.protocol.specs.Layout.{at_ballot, at_vote}
use Rattle.protocol.specs.Record.{parameters_of}
use Rattle.layout.specs.Bounds.{Few}

-- all ballots stand, and a receipt has its length
pub record BallotsReady (p : Parameters) (r printed : List ℕ) : Type 0 where
  pub few : p.ballots ≤ most_ballots
  pub reaches : at_ballot p p.ballots ≤ length r
  pub long : length printed ≡ 32

-- ballot j stands, and a receipt has its length
pub record BallotReady (p : Parameters) (r printed : List ℕ) (j : ℕ) : Type 0 where
  pub few : j ≤ most_ballots
  pub reaches : at_ballot p (suc j) ≤ length r
  pub long : length printed ≡ 32

-- no more ballots than the limit, and a receipt has its length
pub record LookupReady (p : Parameters) (printed : List ℕ) : Type 0 where
  pub few : p.ballots ≤ most_ballots
  pub long : length printed ≡ 32

-- all announced votes stand, and an output has one number a ballot
pub record VotesReady (p : Parameters) (r : List ℕ) (out_long : ℕ) : Type 0 where
  pub is : p ≡ parameters_of r
  pub few : Few p
  pub reaches : at_vote p 0 + 7 * p.ballots ≤ length r
  pub long : out_long ≡ p.ballots
