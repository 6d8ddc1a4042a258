-- `announced::put_announced` meets its contract: it lends the room for the sorted votes.
use mathlib.Core.Path.{◌≡◌}
use Prim.Native.Nat.{ℕ, ◌≤◌}
use native.Mathlib.Omega.{arith}
use lib.ListN.{length, take, replicate, length-replicate}
use lib.Seq.{length-take-le}
use Rattle.protocol.specs.Terms.{most_ballots}

-- a part of the room is as long as what it is for
part_long : (n : ℕ) → n ≤ most_ballots → length {A = ℕ} (take n (replicate most_ballots 0)) ≡ n
part_long n few = length-take-le n (replicate most_ballots 0) (omega (arith, length-replicate {A = ℕ} most_ballots 0))
