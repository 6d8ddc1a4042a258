-- The ballots: those that pass by themselves, a copy among them, and the one at which they stop.
use mathlib.Core.Path.{◌≡◌, sym, ap, ◌∙◌}
use mathlib.Core.Bool.{Bool}
use mathlib.Core.List.{List}
use Prim.Native.Nat.{ℕ, ◌≤◌, ◌<◌}
use native.Mathlib.Decide.{dec_lt}
use native.Mathlib.Omega.{arith}
use borrow.Author.Tests.{lt-ltb, le-ltb}
use Rattle.laws.specs.Faults.{Found, Nothing}
use Rattle.laws.specs.Faults.{◌then◌, first, then_end, first_stop, pairs_passed, pairs_stopped}
use Rattle.protocol.specs.declared.Parameters.{Parameters}
use Rattle.protocol.specs.declared.Due.TheVariants.{Ballot}
use Rattle.protocol.specs.Judging.{found, ballot_faults, judged_ballots}
use Rattle.protocol.proofs.Copies.{first_alike}
use Rattle.copies.specs.Copied.{copy_fault, first_copy}
use Rattle.copies.proofs.Faults.{judged_ballot}
use Rattle.verifier.specs.Passed.{BallotsPassed, stopped}

module _ (drawn : Bool) (p : Parameters) (r : List ℕ) (n k : ℕ) where
  pub stopped_there : k < n → stopped drawn p r n k ≡ found drawn p r (Ballot k)
  unfolding stopped
  stopped_there l = rw (lt-ltb k n l)

  pub stopped_nowhere : n ≤ k → stopped drawn p r n k ≡ Nothing
  unfolding stopped
  stopped_nowhere l = rw (le-ltb k n l)

module _ {drawn : Bool} {p : Parameters} {r : List ℕ} {n k : ℕ} (h : BallotsPassed drawn p r n k) where
  -- by themselves: the one at which they stop
  pub read : stopped drawn p r n k ≡ ballot_faults drawn p r n
  unfolding ballot_faults
  read = go (dec_lt k n)
    where
      a : ℕ → Found
      a j = found drawn p r (Ballot j)

      go : Dec (k < n) → stopped drawn p r n k ≡ first a n
      go (yes l) = stopped_there drawn p r n k l ∙ first_stop a n k l h.none (h.next l)
      go (no f) = let e : k ≡ n = omega (arith, h.most) in stopped_nowhere drawn p r n k (omega arith) ∙ sym h.none ∙ ap (first a) e

  -- as the judge reads them: a copy before that one, or that one
  pub judged : first_copy p r k then stopped drawn p r n k ≡ judged_ballots drawn p r n
  unfolding judged_ballots
  judged = go (dec_lt k n) ∙ sym (first_alike _ _ (judged_ballot drawn p r) n)
    where
      a : ℕ → Found
      a j = found drawn p r (Ballot j)

      b : ℕ → Found
      b = copy_fault p r

      go : Dec (k < n) → first_copy p r k then stopped drawn p r n k ≡ first (λ j. a j then b j) n
      go (yes l) = ap (λ (f : Found). first b k then f) (stopped_there drawn p r n k l) ∙ sym (pairs_stopped a b n k l h.none (h.next l))
      go (no f) =
          let e : k ≡ n = omega (arith, h.most) in
          ap (λ (f : Found). first b k then f) (stopped_nowhere drawn p r n k (omega arith)) ∙ then_end (first b k)
          ∙ sym (pairs_passed a b k h.none) ∙ ap (first (λ j. a j then b j)) e
