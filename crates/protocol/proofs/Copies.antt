-- Rule 21, copied ballots: what it changes in judging, and that the servers refuse exactly the inputs that would produce a copied ballot.
use mathlib.Core.Path.{◌≡◌, refl, sym, ap, ap₂, ◌∙◌}
use mathlib.Core.Logic.{◌≢◌, ◌⊎◌, inl, inr, ⊎_elim}
use mathlib.Core.Bool.{Bool, true, false}
use mathlib.Core.List.{List, []}
use Prim.Native.Nat.{ℕ, zero, suc, ◌+◌, ◌-◌, ◌<◌}
use native.Mathlib.Nat.{le_refl, le_of_lt}
use native.Mathlib.Omega.{arith}
use lib.ListN.{length}
use Rattle.laws.specs.Faults.{Found, Nothing, Fault}
use Rattle.laws.specs.Tests.{equal, below, at_most, ◌or◌, ◌implies◌, never}
use Rattle.laws.specs.Faults.{rule, kept, located, ◌then◌, first, number_of, nothing_fault, then_go, then_stop}
use Rattle.protocol.specs.declared.Form.TheVariants.{Unnumbered, Numbered}
use Rattle.protocol.specs.declared.Parameters.{Parameters}
use Rattle.protocol.specs.declared.Place.{Place}
use Rattle.protocol.specs.declared.Place.TheVariants.{InBallot, InEntry}
use Rattle.protocol.specs.declared.Due.TheVariants.{First, Ballot}
use Rattle.protocol.specs.Answers.{answer_of, refused}
use Rattle.protocol.specs.Terms.{item, election_number, commitment}
use Rattle.protocol.specs.Layout.{at_ballot, lists}
use Rattle.protocol.specs.Record.{parameters_of, id_of, ballot_commitment_of, board_of}
use Rattle.protocol.specs.Rules.{original, ballot_rules, fault_with}
use Rattle.protocol.specs.Judging.{found_with, found, entry_faults, part_two_faults, part_three_faults, first_fault, judged, first_fault_with, judged_with}
use Rattle.protocol.specs.Stands.{Original}
use Rattle.protocol.specs.Inputs.{Slices, inputs_of}
use Rattle.protocol.specs.Servers.{ballot_opening, posted_board}
use Rattle.protocol.specs.Refusals.{all_original}
use Rattle.protocol.proofs.Goodness.{Good}
use Rattle.protocol.proofs.Named.{unoriginal}
use Rattle.protocol.proofs.Tested.{fault_with_iff, ballot_tests}
use Rattle.protocol.proofs.Faultless.{accepted_nothing, accepted_iff, fault_with_lem}
use Rattle.protocol.proofs.Accepting.{accepts_with_iff}
use Rattle.protocol.proofs.Unfitting.{copied}
use Rattle.protocol.proofs.Honesty.{length_opening}
use Rattle.protocol.proofs.Tallies.{climbs}
use Rattle.protocol.proofs.Places.{Nameable, HashCollision, Same, same_or, unnumbered_same}
use Rattle.protocol.proofs.Completeness.{Taken, written, written_laid, written_commitment, written_parameters}

-- ---- one ballot

-- what is found behind other tests
located_last : (place : ℕ) (b1 b2 b3 b5 : Bool) (x : ℕ)
    → located place (rule 1 b1 (rule 2 b2 (rule 1 b3 (rule 5 b5 x)))) ≡ located place (rule 1 b1 (rule 2 b2 (rule 1 b3 (rule 5 b5 kept)))) then located place x
unfolding located rule ◌then◌
located_last place false b2 b3 b5 x = refl
located_last place true false b3 b5 x = refl
located_last place true true false b5 x = refl
located_last place true true true false x = refl
located_last place true true true true x = refl

module _ (p : Parameters) (r : List ℕ) where
  -- what rule 21 finds at ballot j
  abbrev pub copy : ℕ → Found
  copy j = located (at_ballot p j) (rule 21 (original (ballot_commitment_of p r) j) kept)

  pub copy_none : (j : ℕ) → original (ballot_commitment_of p r) j ≡ true → copy j ≡ Nothing
  unfolding located rule
  copy_none j e = rw e

  pub copy_found : (j : ℕ) → original (ballot_commitment_of p r) j ≡ false → copy j ≡ Fault 21 (at_ballot p j)
  unfolding located rule
  copy_found j e = rw e

  copies_or : (j : ℕ) → (copy j ≡ Nothing) ⊎ ((original (ballot_commitment_of p r) j ≡ false) × (copy j ≡ Fault 21 (at_ballot p j)))
  copies_or j = go (original (ballot_commitment_of p r) j) refl
    where
      go : (b : Bool) → original (ballot_commitment_of p r) j ≡ b → (copy j ≡ Nothing) ⊎ ((original (ballot_commitment_of p r) j ≡ false) × (copy j ≡ Fault 21 (at_ballot p j)))
      go true e = inl (copy_none j e)
      go false e = inr (e, copy_found j e)

-- rule 21 comes behind all that is found of a ballot by itself
pub ballot_then : (drawn : Bool) (p : Parameters) (r : List ℕ) (j : ℕ) → found_with drawn p r true (Ballot j) ≡ found drawn p r (Ballot j) then copy p r j
unfolding found_with fault_with ballot_rules ◌implies◌ rule
ballot_then drawn p r j =
    located_last (at_ballot p j) (below (at_ballot p j) (length r)) (equal (item r (at_ballot p j)) 2) (at_most (at_ballot p j + 197) (length r))
    (equal j 0 or below (id_of p r (j - 1)) (id_of p r j)) (rule 21 (original (ballot_commitment_of p r) j) kept)

-- ---- a row of ballots

-- what a row finds is what it finds by a alone, or else b at one of its places, with nothing found before
first_either : (a b : ℕ → Found) (n : ℕ)
    → (first (λ j. a j then b j) n ≡ first a n) ⊎ ((j : ℕ) × (j < n) × (first (λ j. a j then b j) n ≡ b j) × (b j ≢ Nothing))
unfolding first
first_either a b zero = inl refl
first_either a b (suc n) = go (first_either a b n)
  where
    f : ℕ → Found
    f j = a j then b j

    Claim : Type 0
    Claim = (first f n then f n ≡ first a n then a n) ⊎ ((j : ℕ) × (j < suc n) × (first f n then f n ≡ b j) × (b j ≢ Nothing))

    here : (x y : Found) → a n ≡ x → b n ≡ y → first f n ≡ Nothing → first a n ≡ Nothing → Claim
    here (Fault k place) y ea eb z w =
        let s : a n then b n ≡ a n = then_stop (a n) (b n) (λ q. nothing_fault q ea) in
        inl (then_go (first f n) (f n) z ∙ s ∙ sym (then_go (first a n) (a n) w))
    here Nothing Nothing ea eb z w =
        inl (then_go (first f n) (f n) z ∙ then_go (a n) (b n) ea ∙ eb ∙ sym (then_go (first a n) (a n) w ∙ ea))
    here Nothing (Fault k place) ea eb z w = inr (n, le_refl (suc n), then_go (first f n) (f n) z ∙ then_go (a n) (b n) ea, λ q. nothing_fault q eb)

    same : (x : Found) → first a n ≡ x → first f n ≡ first a n → Claim
    same Nothing w e = here (a n) (b n) refl refl (e ∙ w) w
    same (Fault k place) w e =
        inl (then_stop (first f n) (f n) (λ q. nothing_fault (sym e ∙ q) w) ∙ e ∙ sym (then_stop (first a n) (a n) (λ q. nothing_fault q w)))

    go : (first f n ≡ first a n) ⊎ ((j : ℕ) × (j < n) × (first f n ≡ b j) × (b j ≢ Nothing)) → Claim
    go (inl e) = same (first a n) refl e
    go (inr (j, l, e, ne)) = inr (j, omega (arith, l), then_stop (first f n) (f n) (λ q. ne (sym e ∙ q)) ∙ e, ne)

pub first_alike : (f g : ℕ → Found) → ((j : ℕ) → f j ≡ g j) → (n : ℕ) → first f n ≡ first g n
unfolding first
first_alike f g h zero = refl
first_alike f g h (suc n) = ap₂ ◌then◌ (first_alike f g h n) (h n)

-- ---- a record

module _ (drawn : Bool) (r : List ℕ) where
  -- the ballots that the judge refuses by 21
  abbrev pub Copies : ℕ → Type 0
  Copies j = (j < (parameters_of r).ballots) × (original (ballot_commitment_of (parameters_of r) r) j ≡ false)

  -- nothing else has changed: what is found is what was found without rule 21, or 21 at a ballot that copies
  pub only_copies : (first_fault drawn r ≡ first_fault_with false drawn r) ⊎ ((j : ℕ) × Copies j × (first_fault drawn r ≡ Fault 21 (at_ballot (parameters_of r) j)))
  unfolding first_fault_with
  only_copies = go (found drawn p r First) refl
    where
      p : Parameters
      p = parameters_of r

      rest : Found
      rest = part_two_faults drawn p r then part_three_faults drawn p r

      all : Found → Found
      all ballots = found drawn p r First then ((ballots then first (entry_faults drawn p r) (lists p)) then rest)

      ballots : Found
      ballots = first (λ j. found_with drawn p r true (Ballot j)) p.ballots

      read : Found
      read = first (λ j. found drawn p r (Ballot j)) p.ballots

      Claim : Type 0
      Claim = (first_fault drawn r ≡ all read) ⊎ ((j : ℕ) × Copies j × (first_fault drawn r ≡ Fault 21 (at_ballot p j)))

      is : ballots ≡ first (λ j. found drawn p r (Ballot j) then copy p r j) p.ballots
      is = first_alike _ _ (ballot_then drawn p r) p.ballots

      by : found drawn p r First ≡ Nothing
          → (first (λ j. found drawn p r (Ballot j) then copy p r j) p.ballots ≡ read)
          ⊎ ((j : ℕ) × (j < p.ballots) × (first (λ j. found drawn p r (Ballot j) then copy p r j) p.ballots ≡ copy p r j) × (copy p r j ≢ Nothing))
          → Claim
      by z (inl e) = inl (fault_with_lem drawn r ∙ ap all (is ∙ e))
      by z (inr (j, l, e, ne)) = at (copies_or p r j)
        where
          at : (copy p r j ≡ Nothing) ⊎ ((original (ballot_commitment_of p r) j ≡ false) × (copy p r j ≡ Fault 21 (at_ballot p j))) → Claim
          at (inl n) = absurd (ne n)
          at (inr (o, q)) =
              let f : ballots ≡ Fault 21 (at_ballot p j) = is ∙ e ∙ q in
              let some : ballots ≢ Nothing = λ n. nothing_fault n f in
              let one : ballots then first (entry_faults drawn p r) (lists p) ≡ ballots = then_stop _ _ some in
              inr (j, (l, o), fault_with_lem drawn r ∙ then_go (found drawn p r First) _ z ∙ then_stop _ rest (λ n. some (sym one ∙ n)) ∙ one ∙ f)

      go : (x : Found) → found drawn p r First ≡ x → Claim
      go Nothing z = by z (first_either _ _ p.ballots)
      go (Fault k place) z =
          let some : found drawn p r First ≢ Nothing = λ n. nothing_fault n z in
          inl (fault_with_lem drawn r ∙ then_stop _ _ some ∙ sym (then_stop _ _ some))

  -- "stored boards": one without a copied ballot keeps number, place and verdict
  pub stored_fault : Original (board_of r) → first_fault drawn r ≡ first_fault_with false drawn r
  stored_fault o = go only_copies
    where
      go : (first_fault drawn r ≡ first_fault_with false drawn r) ⊎ ((j : ℕ) × Copies j × (first_fault drawn r ≡ Fault 21 (at_ballot (parameters_of r) j))) → first_fault drawn r ≡ first_fault_with false drawn r
      go (inl e) = e
      go (inr (j, (l, e), f)) = let (i, s, t, li, ls, lt, q) = (unoriginal _ j).0 e in absurd (o.apart i j s t li l ls lt q)

  pub stored_verdict : Original (board_of r) → judged drawn r ≡ judged_with false drawn r
  unfolding judged judged_with
  stored_verdict o = ap (λ (f : Found). answer_of (number_of f) []) (stored_fault o)

  -- "stored boards of that kind are now refused": one that was accepted, and has a copied ballot
  pub now_refused : first_fault_with false drawn r ≡ Nothing → (j : ℕ) → Copies j → judged drawn r ≡ refused 21
  unfolding judged answer_of number_of
  now_refused z j (l, e) = go only_copies
    where
      go : (first_fault drawn r ≡ first_fault_with false drawn r) ⊎ ((j : ℕ) × Copies j × (first_fault drawn r ≡ Fault 21 (at_ballot (parameters_of r) j))) → answer_of (number_of (first_fault drawn r)) [] ≡ refused 21
      go (inr (k, _, f)) = ap (λ (f : Found). answer_of (number_of f) []) f
      go (inl f) =
          let k = (accepted_iff true drawn r).0 ((accepted_nothing true drawn r).1 (sym (fault_with_lem drawn r) ∙ f ∙ z)) in
          let h = ((ballot_tests drawn (parameters_of r) r true j).0 ((fault_with_iff drawn (parameters_of r) r true (Ballot j)).0 (k.ballots j l)).1.1).1 refl in
          let (i, s, t, li, ls, lt, q) = (unoriginal _ j).0 e in
          absurd (h i li s ls t lt q)

-- ---- the servers

-- the id in a ballot's place
abbrev ballot_id : Place → ℕ
ballot_id (InBallot id slot) = id
ballot_id (InEntry list position slot) = 0

module _ (s : Slices) where
  -- with 01, two ballots of which one has the other's opening in some slot are refused: equal openings have equal commitments. With 0C they
  -- have other ids, and are not (`numbered_original`).
  pub copied_inputs : s.parameters.form ≡ Unnumbered → (i j a b : ℕ) → i < j → j < s.parameters.ballots → a < 6 → b < 6
      → ballot_opening (inputs_of s) i a ≡ ballot_opening (inputs_of s) j b → all_original s ≡ false
  unfolding posted_board inputs_of
  copied_inputs form i j a b l lj la lb e =
      let p = s.parameters in
      let at : ℕ → ℕ → Place = λ k q. InBallot (item s.ids k) q in
      let same = ap (commitment p (at i a)) e ∙ unnumbered_same p (at i a) (at j b) (ballot_opening (inputs_of s) j b) form in
      (copied s).1 (i, j, a, b, l, lj, la, lb, same)

  -- with 0C they are refused only where a collision is shown, whatever their openings
  pub numbered_original : (election : ℕ) → s.parameters.form ≡ Numbered election → Good (inputs_of s) → (all_original s ≡ true) ⊎ HashCollision
  unfolding posted_board inputs_of ballot_opening election_number
  numbered_original election form g = go (all_original s) refl
    where
      apart : (i j : ℕ) → i < j → j < s.parameters.ballots → item s.ids i ≢ item s.ids j
      apart i j l lj e =
          let up = g.ids_rise i (omega arith) in
          let on = climbs (item s.ids) s.parameters.ballots (λ k lk. le_of_lt (g.ids_rise k lk)) (suc i) j l lj in
          omega (arith, up, on, e)

      long : (j q : ℕ) → j < s.parameters.ballots → q < 6 → length (ballot_opening (inputs_of s) j q) ≡ 36
      long j q lj lq = length_opening _ _ (g.ballot_keys j q lj lq)

      named : (j q : ℕ) → j < s.parameters.ballots → q < 6 → Nameable (InBallot (item s.ids j) q)
      named j q lj lq = (g.ids_fit j lj, omega arith)

      small : election_number s.parameters.form < 4294967296
      small = g.election_fits

      other : (i j a b : ℕ) → i < j → j < s.parameters.ballots
          → Same s.parameters.form (InBallot (item s.ids i) a) (ballot_opening (inputs_of s) i a) s.parameters.form (InBallot (item s.ids j) b) (ballot_opening (inputs_of s) j b)
          → ⊥
      other i j a b l lj h = let (u, (v, w)) = rw form at h in apart i j l lj (ap ballot_id v)

      go : (x : Bool) → all_original s ≡ x → (all_original s ≡ true) ⊎ HashCollision
      go true e = inl e
      go false e =
          let (i, j, a, b, l, lj, la, lb, q) = (copied s).0 e in
          let li : i < s.parameters.ballots = omega arith in
          ⊎_elim (λ h. absurd (other i j a b l lj h)) inr
          (same_or s.parameters s.parameters _ _ _ _ small small (named i a li la) (named j b lj lb) (long i a li la ∙ sym (long j b lj lb)) q)

  -- "Servers refuse inputs that would produce such a board.": the record that the rules give for inputs that break no rule but 21 is
  -- refused by 21
  pub would_produce : Good (inputs_of s) → (dice₁ : List ℕ) (mask : ℕ) (dice₂ sides : List ℕ) → Taken s dice₁ mask dice₂ sides
      → all_original s ≡ false → judged false (written s dice₁ mask dice₂ sides) ≡ refused 21
  would_produce g dice₁ mask dice₂ sides t e =
      let r = written s dice₁ mask dice₂ sides in
      let (due, v) = written_laid s g dice₁ mask dice₂ sides t in
      let (i, j, a, b, l, lj, la, lb, q) = (copied s).0 e in
      let n : parameters_of r ≡ s.parameters = written_parameters s g dice₁ mask dice₂ sides t in
      let at : (j a : ℕ) → j < s.parameters.ballots → a < 6 → ballot_commitment_of (parameters_of r) r j a ≡ (posted_board (inputs_of s)).ballot_commitment j a = written_commitment s g dice₁ mask dice₂ sides t in
      now_refused false r ((accepted_nothing false false r).0 ((accepts_with_iff false r).1 (due, (v, λ e. absurd (never e refl))))) j
      (rw n lj, (unoriginal _ j).1 (i, a, b, l, la, lb, at i a (omega arith) la ∙ q ∙ sym (at j b lj lb)))
