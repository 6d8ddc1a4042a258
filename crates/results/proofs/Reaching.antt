-- How far a record reaches whose commands stand, and how large its parameters are.
use mathlib.Core.Path.{◌≡◌, refl, sym, ◌∙◌}
use mathlib.Core.Bool.{Bool, true, false}
use mathlib.Core.List.{List}
use Prim.Native.Nat.{ℕ, suc, ◌+◌, ◌-◌, ◌≤◌, ◌<◌}
use native.Mathlib.Omega.{arith}
use lib.ListN.{length}
use Rattle.laws.specs.Faults.{Found, Nothing}
use Rattle.laws.specs.Faults.{◌then◌, rules, located_nothing}
use Rattle.protocol.specs.declared.Parameters.{Parameters}
use Rattle.protocol.specs.declared.Due.{Due}
use Rattle.protocol.specs.declared.Due.TheVariants.{First, Ballot, Vote}
use Rattle.protocol.specs.Terms.{item, most_ballots}
use Rattle.protocol.specs.Layout.{width, first_width, at_ballot, at_vote}
use Rattle.protocol.specs.Record.{parameters_of}
use Rattle.protocol.specs.Rules.{place_of, fault}
use Rattle.protocol.specs.Judging.{found, found_with, ballot_faults, first_fault}
use Rattle.protocol.specs.Results.{announced_votes}
use Rattle.protocol.proofs.Announced.{announced_length, announced_item}
use Rattle.protocol.proofs.Faultless.{Faultless, faultless_iff, fault_with_lem}
use Rattle.protocol.proofs.Tested.{fault_iff, first_tests, vote_tests}
use Rattle.layout.specs.Bounds.{Few}
use Rattle.results.specs.Ready.{BallotsReady, BallotReady, LookupReady, VotesReady}

module _ (drawn : Bool) (p : Parameters) (r : List ℕ) where
  -- a command that stands ends inside of the record
  stands_whole : (d : Due) → fault p r drawn d ≡ 0 → place_of p r d + width p d ≤ length r
  stands_whole d e = ((fault_iff drawn p r d).0 e).1.0

module _ (drawn : Bool) (r : List ℕ) where
  record Limits : Type 0 where
    pub few : Few (parameters_of r)
    pub ballots_low : 1 ≤ (parameters_of r).ballots

  limits : fault (parameters_of r) r drawn First ≡ 0 → Limits
  limits e =
      let t = (first_tests drawn (parameters_of r) r).0 ((fault_iff drawn (parameters_of r) r First).0 e).1.1 in
      record { few = record { ballots = t.1.0.1; compared = t.1.1.1 }; ballots_low = t.1.0.0 }

-- ---- the parameters and all ballots

module _ (r : List ℕ) where
  -- the first fault as far as the receipt check reads
  abbrev pub head_fault : Found
  head_fault = found false (parameters_of r) r First then ballot_faults false (parameters_of r) r (parameters_of r).ballots

  record Head : Type 0 where
    pub first : fault (parameters_of r) r false First ≡ 0
    pub ballots : (j : ℕ) → j < (parameters_of r).ballots → fault (parameters_of r) r false (Ballot j) ≡ 0

  head_stands : head_fault ≡ Nothing → Head
  unfolding ballot_faults found_with
  head_stands e = let t = simp rules at e in record { first = t.0; ballots = t.1 }

  pub head_whole : head_fault ≡ Nothing → first_width (parameters_of r) ≤ length r
  head_whole e = omega (arith, stands_whole false (parameters_of r) r First (head_stands e).first)

  pub ballots_ready : {p : Parameters} {printed : List ℕ} → head_fault ≡ Nothing → p ≡ parameters_of r → length printed ≡ 32 → BallotsReady p r printed
  unfolding at_ballot
  ballots_ready e s l =
      let q = parameters_of r in
      let h = head_stands e in
      let k = limits false r h.first in
      let j = q.ballots - 1 in
      let w : at_ballot q j + 197 ≤ length r = stands_whole false q r (Ballot j) (h.ballots j (omega (arith, k.ballots_low))) in
      rw s (record { few = k.few.ballots; reaches = omega (arith, k.ballots_low); long = l })

-- ---- the ballots up to one

module _ (r : List ℕ) where
  first_stands : found false (parameters_of r) r First ≡ Nothing → fault (parameters_of r) r false First ≡ 0
  unfolding found_with
  first_stands e = (located_nothing _ _).0 e

  pub first_whole : found false (parameters_of r) r First ≡ Nothing → first_width (parameters_of r) ≤ length r
  first_whole e = omega (arith, stands_whole false (parameters_of r) r First (first_stands e))

  pub lookup_ready : {p : Parameters} {printed : List ℕ} → found false (parameters_of r) r First ≡ Nothing → p ≡ parameters_of r → length printed ≡ 32 → LookupReady p printed
  lookup_ready e s l = rw s (record { few = (limits false r (first_stands e)).few.ballots; long = l })

pub ballot_ready : (p : Parameters) (r printed : List ℕ) (j : ℕ) → j ≤ most_ballots → found false p r (Ballot j) ≡ Nothing → length printed ≡ 32 → BallotReady p r printed j
unfolding found_with at_ballot
ballot_ready p r printed j few e l =
    let w : at_ballot p j + 197 ≤ length r = stands_whole false p r (Ballot j) ((located_nothing _ _).0 e) in
    record { few = few; reaches = omega arith; long = l }

pub each_ready : {p : Parameters} {r printed : List ℕ} → BallotsReady p r printed → (j : ℕ) → suc j ≤ p.ballots → BallotReady p r printed j
unfolding at_ballot
each_ready b j l = record { few = omega (arith, b.few); reaches = omega (arith, b.reaches); long = b.long }

-- ---- an accepted record, judged plainly or as drawn

module _ (drawn : Bool) (r : List ℕ) (e : first_fault drawn r ≡ Nothing) where
  abbrev stands : Faultless true drawn (parameters_of r) r
  stands = (faultless_iff true drawn r).0 (sym (fault_with_lem drawn r) ∙ e)

  pub accepted_whole : first_width (parameters_of r) ≤ length r
  accepted_whole = omega (arith, stands_whole drawn (parameters_of r) r First stands.first)

  pub accepted_few : (parameters_of r).ballots ≤ most_ballots
  accepted_few = (limits drawn r stands.first).few.ballots

  pub votes_ready : {p : Parameters} {n : ℕ} → p ≡ parameters_of r → n ≡ p.ballots → VotesReady p r n
  unfolding at_vote
  votes_ready s l =
      let q = parameters_of r in
      let k = limits drawn r stands.first in
      let i = q.ballots - 1 in
      let w : at_vote q i + 7 ≤ length r = stands_whole drawn q r (Vote i) (stands.votes i (omega (arith, k.ballots_low))) in
      record { is = s; few = rw s k.few; reaches = rw s (omega (arith, k.ballots_low)); long = l }

  -- rule 15: no vote is smaller than the one before
  pub votes_rise : (i : ℕ) → suc i < length (announced_votes r) → item (announced_votes r) i ≤ item (announced_votes r) (suc i)
  votes_rise i l =
      let q = parameters_of r in
      let next : suc i < q.ballots = rw (announced_length r) at l in
      let kept = ((fault_iff drawn q r (Vote (suc i))).0 (stands.votes (suc i) next)).1.1 in
      rw (announced_item r i (omega (arith, next)), announced_item r (suc i) next) (((vote_tests drawn q r (suc i)).0 kept).1.1 i refl)
