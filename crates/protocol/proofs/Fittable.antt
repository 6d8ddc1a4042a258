-- Votes that fit what the accepted answers show of the ballots: there are some, or two answers show a ballot's commitment opened in two ways.
use mathlib.Core.Path.{◌≡◌, refl, sym, subst, ◌∙◌}
use mathlib.Core.Logic.{◌⊎◌, inl, inr, ◌≢◌}
use mathlib.Core.List.{List, List-discrete}
use Prim.Native.Nat.{ℕ, ◌+◌, ◌*◌, ◌/◌, ◌%◌, ◌≤◌, ◌<◌}
use native.Mathlib.Decide.{ℕ_discrete}
use native.Mathlib.Omega.{arith}
use Rattle.laws.specs.Masks.{bit, bit_small}
use Rattle.laws.specs.Search.{all_or, ◌>>=◌}
use Rattle.protocol.specs.declared.Parameters.{Parameters}
use Rattle.protocol.specs.declared.Place.TheVariants.{InBallot}
use Rattle.protocol.specs.Terms.{commitment}
use Rattle.protocol.specs.Record.{Disclosure, parameters_of, id_of, ballot_commitment_of, side_of, ballot_opening_of}
use Rattle.protocol.specs.Stands.{ValidOver}
use Rattle.protocol.specs.Demand3.{Commits, CommitsOver}
use Rattle.protocol.specs.Throws.{Strategy, Passed, Family, Fits, AnswersTwice}
use Rattle.protocol.proofs.Alike.{id_alike}
use Rattle.protocol.proofs.Transport.{slot_in}
use Rattle.protocol.proofs.Committed.{both, on_side_lem, off_side}
use Rattle.protocol.proofs.Counted.{vote}
use Rattle.protocol.proofs.Soundness.{board_at, comparison_at, disclosure_at, ballot_half_shown, ballot_posted, commits}
use Rattle.protocol.proofs.Passing.{passed_or, its_parameters, first_alike, first_valid, second_valid, answers_twice}

module _ (board : List ℕ) (answer : Strategy) (f : Family board answer) where
  abbrev p : Parameters
  p = parameters_of board

  -- ---- a ballot's half is opened in one way

  -- what two answers show of ballots on the same side
  abbrev SameBallots : ℕ → ℕ → ℕ → ℕ → Type 0
  SameBallots mask₁ sides₁ mask₂ sides₂ =
      (j : ℕ) → j < p.ballots → (c : ℕ) → c < 3 → bit sides₁ j ≡ bit sides₂ j
      → ballot_opening_of p (answer mask₁ sides₁) j c ≡ ballot_opening_of p (answer mask₂ sides₂) j c

  module _ (mask₁ sides₁ : ℕ) (h₁ : Passed board answer mask₁ sides₁) (mask₂ sides₂ : ℕ) (h₂ : Passed board answer mask₂ sides₂) where
    abbrev r₁ : List ℕ
    r₁ = answer mask₁ sides₁

    abbrev r₂ : List ℕ
    r₂ = answer mask₂ sides₂

    twice : (j c : ℕ) → j < p.ballots → c < 3 → bit sides₁ j ≡ bit sides₂ j → ballot_opening_of p r₁ j c ≢ ballot_opening_of p r₂ j c
        → AnswersTwice board answer
    twice j c lj lc side ne =
        answers_twice board answer f mask₁ sides₁ h₁ mask₂ sides₂ h₂ record {
          place = InBallot (id_of p r₁ j) q;
          posted = ballot_commitment_of p r₁ j q;
          one = ballot_opening_of p r₁ j c;
          other = ballot_opening_of p r₂ j c;
          is_posted = ballot_posted p r₁ e₁ j q lj (slot_in c (side_of p r₁ j) lc (v₁.sides j lj));
          differ = ne;
          one_gives = v₁.ballot_opens j c lj lc;
          other_gives = rw (sym same_side) at (v₂.ballot_opens j c lj lc);
          one_shown = inl (ballot_half_shown p r₁ e₁ j c lj lc);
          other_shown = inr (inr (rw (same_id, sym same_side) at (ballot_half_shown p r₂ e₂ j c lj lc)));
        }
      where
        q : ℕ
        q = 2 * c + side_of p r₁ j

        e₁ : parameters_of r₁ ≡ p
        e₁ = its_parameters board answer f mask₁ sides₁ h₁

        e₂ : parameters_of r₂ ≡ p
        e₂ = its_parameters board answer f mask₂ sides₂ h₂

        v₁ : ValidOver (commitment p) (board_at p r₁) (comparison_at p r₁) (disclosure_at p r₁)
        v₁ = first_valid board answer f mask₁ sides₁ h₁ mask₂ sides₂ h₂

        v₂ : ValidOver (commitment p) (board_at p r₁) (comparison_at p r₂) (disclosure_at p r₂)
        v₂ = second_valid board answer f mask₁ sides₁ h₁ mask₂ sides₂ h₂

        same_side : side_of p r₁ j ≡ side_of p r₂ j
        same_side = f.sides mask₁ sides₁ j h₁ lj ∙ side ∙ sym (f.sides mask₂ sides₂ j h₂ lj)

        same_id : id_of p r₂ j ≡ id_of p r₁ j
        same_id = id_alike p r₂ r₁ (first_alike board answer f mask₂ sides₂ h₂ ∙ sym (first_alike board answer f mask₁ sides₁ h₁)) j lj

    same_or : SameBallots mask₁ sides₁ mask₂ sides₂ ⊎ AnswersTwice board answer
    same_or =
        all_or p.ballots (λ j lj. all_or 3 (λ c lc. at j lj c lc (ℕ_discrete (bit sides₁ j) (bit sides₂ j))
        (List-discrete ℕ_discrete (ballot_opening_of p r₁ j c) (ballot_opening_of p r₂ j c))))
      where
        at : (j : ℕ) → j < p.ballots → (c : ℕ) → c < 3 → Dec (bit sides₁ j ≡ bit sides₂ j) → Dec (ballot_opening_of p r₁ j c ≡ ballot_opening_of p r₂ j c)
            → (bit sides₁ j ≡ bit sides₂ j → ballot_opening_of p r₁ j c ≡ ballot_opening_of p r₂ j c) ⊎ AnswersTwice board answer
        at j lj c lc (no s) d = inl (λ side. absurd (s side))
        at j lj c lc (yes s) (yes e) = inl (λ side. e)
        at j lj c lc (yes s) (no ne) = inr (twice j c lj lc s ne)

  abbrev AllSame : Type 0
  AllSame =
      (mask₁ sides₁ : ℕ) → Passed board answer mask₁ sides₁ → (mask₂ sides₂ : ℕ) → Passed board answer mask₂ sides₂
      → SameBallots mask₁ sides₁ mask₂ sides₂

  all_same : AllSame ⊎ AnswersTwice board answer
  all_same = passed_or board answer (λ mask₁ sides₁ h₁. passed_or board answer (same_or mask₁ sides₁ h₁))

  -- ---- a throw that passes and shows side v of ballot j

  record ShownOn (j v : ℕ) : Type 0 where
    pub mask : ℕ
    pub sides : ℕ
    pub passed : Passed board answer mask sides
    pub side : bit sides j ≡ v

  abbrev NeverOn : ℕ → ℕ → Type 0
  NeverOn j v = (mask sides : ℕ) → Passed board answer mask sides → bit sides j ≢ v

  search : (j v : ℕ) → NeverOn j v ⊎ ShownOn j v
  search j v = passed_or board answer (λ mask sides h. at mask sides h (ℕ_discrete (bit sides j) v))
    where
      at : (mask sides : ℕ) → Passed board answer mask sides → Dec (bit sides j ≡ v) → (bit sides j ≢ v) ⊎ ShownOn j v
      at mask sides h (no ne) = inl ne
      at mask sides h (yes s) = inr record { mask = mask; sides = sides; passed = h; side = s }

  -- ---- the votes

  abbrev shown_by : {j v : ℕ} → ShownOn j v → Disclosure
  shown_by t = disclosure_at p (answer t.mask t.sides)

  -- the sum of the six numbers where both sides are shown, else any number
  abbrev vote_by : (j : ℕ) → NeverOn j 0 ⊎ ShownOn j 0 → NeverOn j 1 ⊎ ShownOn j 1 → ℕ
  vote_by j (inr a) (inr b) = vote (board_at p board) (shown_by a) (shown_by b) j
  vote_by j (inr a) (inl b) = 0
  vote_by j (inl a) b = 0

  committed : ℕ → ℕ
  committed j = vote_by j (search j 0) (search j 1)

  module _ (same : AllSame) (mask₁ sides₁ mask₂ sides₂ j : ℕ) (h₁ : Passed board answer mask₁ sides₁) (h₂ : Passed board answer mask₂ sides₂)
      (lj : j < p.ballots) (ne : bit sides₁ j ≢ bit sides₂ j) where
    -- slot q of two answers that show both sides is what any answer shows on its side
    both_shown : (mask sides : ℕ) → Passed board answer mask sides → (q : ℕ) → q < 6 → bit sides j ≡ q % 2
        → both (disclosure_at p (answer mask₁ sides₁)) (disclosure_at p (answer mask₂ sides₂)) j q
        ≡ ballot_opening_of p (answer mask sides) j (q / 2)
    both_shown mask sides h q lq e = go (ℕ_discrete (bit sides₁ j) (q % 2))
      where
        d₁ : Disclosure
        d₁ = disclosure_at p (answer mask₁ sides₁)

        d₂ : Disclosure
        d₂ = disclosure_at p (answer mask₂ sides₂)

        s₁ : side_of p (answer mask₁ sides₁) j ≡ bit sides₁ j
        s₁ = f.sides mask₁ sides₁ j h₁ lj

        go : Dec (bit sides₁ j ≡ q % 2) → both d₁ d₂ j q ≡ ballot_opening_of p (answer mask sides) j (q / 2)
        go (yes i) = on_side_lem d₁ d₂ j q (q / 2) (sym (s₁ ∙ i)) refl ∙ same mask₁ sides₁ h₁ mask sides h j lj (q / 2) (omega arith) (i ∙ sym e)
        go (no i) =
            let i₂ : bit sides₂ j ≡ q % 2 = omega (arith, bit_small sides₁ j, bit_small sides₂ j, ne, i) in
            off_side d₁ d₂ j q (q / 2) (λ z. i (sym (z ∙ s₁))) refl ∙ same mask₂ sides₂ h₂ mask sides h j lj (q / 2) (omega arith) (i₂ ∙ sym e)

  -- the votes summed are the same, whichever two answers show both sides
  one_vote : AllSame → (mask₁ sides₁ mask₂ sides₂ j : ℕ) → Passed board answer mask₁ sides₁ → Passed board answer mask₂ sides₂
      → j < p.ballots → bit sides₁ j ≢ bit sides₂ j → (a : ShownOn j 0) (b : ShownOn j 1)
      → vote (board_at p board) (disclosure_at p (answer mask₁ sides₁)) (disclosure_at p (answer mask₂ sides₂)) j
      ≡ vote (board_at p board) (shown_by a) (shown_by b) j
  one_vote same mask₁ sides₁ mask₂ sides₂ j h₁ h₂ lj ne a b =
      rw (slot 0 (omega arith), slot 1 (omega arith), slot 2 (omega arith), slot 3 (omega arith), slot 4 (omega arith), slot 5 (omega arith)) refl
    where
      opposite : bit a.sides j ≢ bit b.sides j
      opposite e = omega (arith, a.side, b.side, e)

      slot : (q : ℕ) → q < 6 → both (disclosure_at p (answer mask₁ sides₁)) (disclosure_at p (answer mask₂ sides₂)) j q ≡ both (shown_by a) (shown_by b) j q
      slot q lq = go (ℕ_discrete (q % 2) 0)
        where
          go : Dec (q % 2 ≡ 0) → both (disclosure_at p (answer mask₁ sides₁)) (disclosure_at p (answer mask₂ sides₂)) j q ≡ both (shown_by a) (shown_by b) j q
          go (yes z) =
              both_shown same mask₁ sides₁ mask₂ sides₂ j h₁ h₂ lj ne a.mask a.sides a.passed q lq (a.side ∙ sym z)
              ∙ sym (both_shown same a.mask a.sides b.mask b.sides j a.passed b.passed lj opposite a.mask a.sides a.passed q lq (a.side ∙ sym z))
          go (no z) =
              let o : q % 2 ≡ 1 = omega arith in
              both_shown same mask₁ sides₁ mask₂ sides₂ j h₁ h₂ lj ne b.mask b.sides b.passed q lq (b.side ∙ sym o)
              ∙ sym (both_shown same a.mask a.sides b.mask b.sides j a.passed b.passed lj opposite b.mask b.sides b.passed q lq (b.side ∙ sym o))

  -- of two different sides each is shown
  either_shown : (mask₁ sides₁ mask₂ sides₂ j v : ℕ) → Passed board answer mask₁ sides₁ → Passed board answer mask₂ sides₂ → bit sides₁ j ≢ bit sides₂ j
      → v ≤ 1 → NeverOn j v → ⊥
  either_shown mask₁ sides₁ mask₂ sides₂ j v h₁ h₂ ne l a =
      ne (omega (arith, bit_small sides₁ j, bit_small sides₂ j, a mask₁ sides₁ h₁, a mask₂ sides₂ h₂))

  fitting : AllSame → Fits board answer committed
  unfolding committed
  fitting same = record { commits = λ mask₁ sides₁ mask₂ sides₂ j h₁ h₂ lj ne. go mask₁ sides₁ mask₂ sides₂ j h₁ h₂ lj ne (search j 0) (search j 1) }
    where
      go : (mask₁ sides₁ mask₂ sides₂ j : ℕ) → Passed board answer mask₁ sides₁ → Passed board answer mask₂ sides₂ → j < p.ballots
          → bit sides₁ j ≢ bit sides₂ j → (a : NeverOn j 0 ⊎ ShownOn j 0) (b : NeverOn j 1 ⊎ ShownOn j 1)
          → Commits (answer mask₁ sides₁) (answer mask₂ sides₂) j (vote_by j a b)
      go mask₁ sides₁ mask₂ sides₂ j h₁ h₂ lj ne (inr a) (inr b) =
          let r₁ : List ℕ = answer mask₁ sides₁ in
          let r₂ : List ℕ = answer mask₂ sides₂ in
          let e₁ : parameters_of r₁ ≡ p = its_parameters board answer f mask₁ sides₁ h₁ in
          let apart : side_of p r₁ j ≢ side_of p r₂ j = λ e. ne (sym (f.sides mask₁ sides₁ j h₁ lj) ∙ e ∙ f.sides mask₂ sides₂ j h₂ lj) in
          subst (λ (x : Parameters). CommitsOver (commitment x) r₁ r₂ j (vote_by j (inr a) (inr b))) (sym e₁)
          (subst (λ (x : ℕ). CommitsOver (commitment p) r₁ r₂ j x) (one_vote same mask₁ sides₁ mask₂ sides₂ j h₁ h₂ lj ne a b)
          (commits p r₁ r₂ e₁ (its_parameters board answer f mask₂ sides₂ h₂) (first_valid board answer f mask₁ sides₁ h₁ mask₂ sides₂ h₂) (second_valid board answer f mask₁ sides₁ h₁ mask₂ sides₂ h₂) j lj apart))
      go mask₁ sides₁ mask₂ sides₂ j h₁ h₂ lj ne (inr a) (inl b) = absurd (either_shown mask₁ sides₁ mask₂ sides₂ j 1 h₁ h₂ ne (omega arith) b)
      go mask₁ sides₁ mask₂ sides₂ j h₁ h₂ lj ne (inl a) b = absurd (either_shown mask₁ sides₁ mask₂ sides₂ j 0 h₁ h₂ ne (omega arith) a)

  pub some_fit : ((votes : ℕ → ℕ) × Fits board answer votes) ⊎ AnswersTwice board answer
  some_fit = do
    same ← all_same
    inl (committed, fitting same)
