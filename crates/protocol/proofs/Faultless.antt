-- A record is accepted exactly if no command of it has a fault, be rule 21 asked for or not.
use mathlib.Core.Path.{◌≡◌, refl, sym, ap, ◌∙◌}
use mathlib.Core.Logic.{◌↔◌, ◌≢◌}
use mathlib.Core.Bool.{Bool, true}
use mathlib.Core.List.{List, []}
use Prim.Native.Nat.{ℕ, zero, suc, ◌≤◌, ◌<◌}
use native.Mathlib.Omega.{arith}
use lib.ListN.{length}
use Rattle.laws.specs.Faults.{Found, Nothing}
use Rattle.laws.specs.Faults.{number_of, rules, Numbered, numbered}
use Rattle.laws.specs.Masks.{bit}
use Rattle.protocol.specs.declared.Parameters.{Parameters}
use Rattle.protocol.specs.declared.Due.TheVariants.{First, Ballot, Entry, FirstDice, Link, SecondDice, BallotHalf, ListHalf, Vote, FullOpening, End}
use Rattle.protocol.specs.Answers.{answer_of, accepted}
use Rattle.protocol.specs.Layout.{lists, record_length}
use Rattle.protocol.specs.Record.{parameters_of, mask_of}
use Rattle.protocol.specs.Rules.{fault_with, fault}
use Rattle.protocol.specs.Judging.{found_with, if_compared, if_opened, entry_faults, link_faults, list_half_faults, half_faults, vote_faults, full_faults, trailing_fault, judged_ballots, part_one_faults, part_two_faults, part_three_faults, first_fault, judged, first_fault_with, judged_with}

-- no command has a fault, and no byte follows the last
pub record Faultless (copies drawn : Bool) (p : Parameters) (r : List ℕ) : Type 0 where
  pub first : fault p r drawn First ≡ 0
  pub ballots : (j : ℕ) → j < p.ballots → fault_with p r copies drawn (Ballot j) ≡ 0
  pub entries : (l : ℕ) → l < lists p → (i : ℕ) → i < p.ballots → fault p r drawn (Entry l i) ≡ 0
  pub first_dice : fault p r drawn FirstDice ≡ 0
  pub links : (l : ℕ) → l < lists p → bit (mask_of p r) l ≢ 0 → (j : ℕ) → j < p.ballots → fault p r drawn (Link l j) ≡ 0
  pub second_dice : fault p r drawn SecondDice ≡ 0
  pub halves : (j : ℕ) → j < p.ballots → (fault p r drawn (BallotHalf j) ≡ 0) × ((l : ℕ) → l < lists p → bit (mask_of p r) l ≢ 0 → fault p r drawn (ListHalf l j) ≡ 0)
  pub votes : (i : ℕ) → i < p.ballots → fault p r drawn (Vote i) ≡ 0
  pub full_openings : (l : ℕ) → l < lists p → bit (mask_of p r) l ≡ 0 → (i : ℕ) → i < p.ballots → fault p r drawn (FullOpening l i) ≡ 0
  pub end : fault p r drawn End ≡ 0
  pub trailing : length r ≤ record_length p

module _ (copies drawn : Bool) (r : List ℕ) where
  pub faultless_iff : (first_fault_with copies drawn r ≡ Nothing) ↔ Faultless copies drawn (parameters_of r) r
  unfolding first_fault_with part_two_faults part_three_faults entry_faults link_faults list_half_faults half_faults vote_faults full_faults trailing_fault if_compared if_opened found_with
  faultless_iff = (
    λ e. let h = simp rules at e in record {
      first = h.0;
      ballots = h.1.0.0;
      entries = h.1.0.1;
      first_dice = h.1.1.0.0;
      links = h.1.1.0.1;
      second_dice = h.1.1.1.0;
      halves = h.1.1.1.1.0;
      votes = h.1.1.1.1.1.0;
      full_openings = h.1.1.1.1.1.1.0;
      end = h.1.1.1.1.1.1.1.0;
      trailing = h.1.1.1.1.1.1.1.1.0;
    },
    λ k. simp rules (
      k.first,
      ((k.ballots, k.entries), ((k.first_dice, k.links), (k.second_dice, (k.halves, (k.votes, (k.full_openings, (k.end, (k.trailing, refl)))))))),
    ),
  )

  fault_numbered : Numbered (first_fault_with copies drawn r)
  unfolding first_fault_with part_two_faults part_three_faults entry_faults link_faults list_half_faults half_faults vote_faults full_faults trailing_fault if_compared if_opened found_with
  fault_numbered = search numbered depth 12

  none_broken : (k : ℕ) → (answer_of k [] ≡ accepted) ↔ (k ≡ 0)
  unfolding answer_of
  none_broken zero = (λ e. refl, λ e. refl)
  none_broken (suc k) = (λ e. cc, λ e. absurd (omega arith))

  pub accepted_nothing : (judged_with copies drawn r ≡ accepted) ↔ (first_fault_with copies drawn r ≡ Nothing)
  unfolding judged_with number_of
  accepted_nothing = (
    λ e. fault_numbered.nothing ((none_broken (number_of (first_fault_with copies drawn r))).0 e),
    λ e. (none_broken (number_of (first_fault_with copies drawn r))).1 (ap number_of e),
  )

  pub accepted_iff : (judged_with copies drawn r ≡ accepted) ↔ Faultless copies drawn (parameters_of r) r
  accepted_iff = (λ e. faultless_iff.0 (accepted_nothing.0 e), λ k. accepted_nothing.1 (faultless_iff.1 k))

-- the judge asks for rule 21
module _ (drawn : Bool) (r : List ℕ) where
  pub fault_with_lem : first_fault drawn r ≡ first_fault_with true drawn r
  unfolding first_fault first_fault_with part_one_faults judged_ballots
  fault_with_lem = refl

  pub judged_with_lem : judged drawn r ≡ judged_with true drawn r
  unfolding judged judged_with
  judged_with_lem = ap (λ (f : Found). answer_of (number_of f) []) fault_with_lem

  pub judged_nothing : (judged drawn r ≡ accepted) ↔ (first_fault drawn r ≡ Nothing)
  judged_nothing = (
    λ e. fault_with_lem ∙ (accepted_nothing true drawn r).0 (sym judged_with_lem ∙ e),
    λ e. judged_with_lem ∙ (accepted_nothing true drawn r).1 (sym fault_with_lem ∙ e),
  )
