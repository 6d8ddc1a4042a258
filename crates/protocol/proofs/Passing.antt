-- What would be answered to every throw over one board: two accepted answers show a commitment opened in two ways, or few throws pass with a
-- result that differs from what the ballots commit. If more than 2^(n - k) sides pass under one mask, fewer than k ballots are always shown on
-- the same side; the others' entries in a list that this mask compares hold their votes, and every other mask opens such a list. So false
-- results pass under one mask alone, or every mask has few.
use mathlib.Core.Path.{◌≡◌, refl, sym, ap, subst, ◌∙◌}
use mathlib.Core.Logic.{◌⊎◌, inl, inr, ◌≢◌, ◌↔◌}
use mathlib.Core.Bool.{Bool, true, false}
use mathlib.Core.List.{List, []}
use Prim.Native.Nat.{ℕ, zero, suc, ◌-◌, ◌*◌, ◌^◌, ◌≤◌, ◌<◌, suc-le-suc}
use native.Mathlib.Nat.{le_refl, le_trans, le_of_eq}
use native.Mathlib.Decide.{ℕ_discrete, dec_le}
use native.Mathlib.Omega.{arith}
use lib.Count.{ones}
use lib.ListN.{take}
use lib.Seq.{take-take}
use Rattle.laws.specs.Tests.{equal, below, ◌and◌, never, refuted, equal_iff, and_iff}
use Rattle.laws.specs.Masks.{bit, Only, only}
use Rattle.laws.specs.Faults.{number_of, rules}
use Rattle.laws.specs.Search.{find, all_or, ◌>>=◌}
use Rattle.laws.specs.Sums.{sum, one_if, sum_most, sum_only, sum_times}
use Rattle.laws.specs.Subsets.{many_below, below_within, below_none, below_most, below_some}
use Rattle.laws.specs.Binomials.{with_ones}
use Rattle.laws.proofs.Binomials.{constant_less}
use Rattle.laws.specs.Distances.{distance}
use Rattle.protocol.specs.declared.Parameters.{Parameters}
use Rattle.protocol.specs.Answers.{answer_of, accepted}
use Rattle.protocol.specs.Terms.{commitment}
use Rattle.protocol.specs.Layout.{lists, at_first_dice, at_second_dice}
use Rattle.protocol.specs.Record.{Disclosure, parameters_of, vote_of}
use Rattle.protocol.specs.Rules.{right_shape}
use Rattle.protocol.specs.Judging.{first_fault, judged}
use Rattle.protocol.specs.Stands.{ValidOver, StandsOver, Stands}
use Rattle.protocol.specs.Demand3.{before_first_dice, OpenedTwiceOver}
use Rattle.protocol.specs.Throws.{Strategy, is_done, is_throw, throws, choices, most_false, accepts, accepts_false, Passed, Family, Fits, AnswersTwice}
use Rattle.protocol.proofs.Accepting.{accepts_iff}
use Rattle.protocol.proofs.Alike.{parameters_within, first_low, position_alike}
use Rattle.protocol.proofs.Counted.{rank_below, Clash, Alike, alike_or}
use Rattle.protocol.proofs.Soundness.{board_at, comparison_at, disclosure_at, over_board, over_comparison, clash_twice}
use Rattle.protocol.proofs.Differing.{Summed, few_differ}

-- ---- an accepted answer

-- the record stands
pub accepts_stands : (answer : Strategy) (mask sides : ℕ) → (accepts answer mask sides ≡ true) ↔ Stands (answer mask sides)
unfolding accepts judged is_done answer_of
accepts_stands answer mask sides =
    (λ e. (accepts_iff (answer mask sides)).0 (from (number_of (first_fault false (answer mask sides))) e), λ s. ap is_done ((accepts_iff (answer mask sides)).1 s))
  where
    from : (v : ℕ) → is_done (answer_of v []) ≡ true → answer_of v [] ≡ accepted
    from zero e = refl
    from (suc v) e = absurd (never e refl)

-- the bytes before the first dice tell the parameters
pub parameters_of_lem : (board r : List ℕ) → before_first_dice r ≡ board → parameters_of r ≡ parameters_of board
parameters_of_lem board r e =
    let d : ℕ = at_first_dice (parameters_of r) in
    parameters_within r board d (sym (take-take d d r (le_refl d)) ∙ ap (take d) e) (first_low (parameters_of r))

-- a throw's mask and sides
pub thrown_iff : (p : Parameters) (mask sides : ℕ)
    → (is_throw p mask sides ≡ true) ↔ (((ones mask ≡ p.compared) × (mask < 2 ^ lists p)) × (sides < 2 ^ p.ballots))
unfolding is_throw right_shape
thrown_iff p mask sides = (λ e. simp rules at e, λ t. simp rules t)

module _ (board : List ℕ) (answer : Strategy) where
  -- the test of whether a throw passes
  passes : ℕ → ℕ → Bool
  passes mask sides = is_throw (parameters_of board) mask sides and accepts answer mask sides

  passes_iff : (mask sides : ℕ) → (passes mask sides ≡ true) ↔ Passed board answer mask sides
  unfolding passes
  passes_iff mask sides = (
    λ e. let t = (and_iff (is_throw (parameters_of board) mask sides) (accepts answer mask sides)).0 e in record { thrown = t.0; accepted = t.1 },
    λ h. (and_iff (is_throw (parameters_of board) mask sides) (accepts answer mask sides)).1 (h.thrown, h.accepted),
  )

  -- what holds of each throw that passes unless an E is found holds of all of them unless an E is found
  pub passed_or : {P : ℕ → ℕ → Type 0} {E : Type 0} → ((mask sides : ℕ) → Passed board answer mask sides → P mask sides ⊎ E)
      → ((mask sides : ℕ) → Passed board answer mask sides → P mask sides) ⊎ E
  passed_or {P} {E} each = do
    all ← all_or (2 ^ lists (parameters_of board)) (λ mask l. all_or (2 ^ (parameters_of board).ballots) (λ sides k. at mask sides (passes mask sides) refl))
    inl (λ mask sides h. let ((o, m), s) = (thrown_iff (parameters_of board) mask sides).0 h.thrown in all mask m sides s h)
    where
      at : (mask sides : ℕ) (b : Bool) → passes mask sides ≡ b → (Passed board answer mask sides → P mask sides) ⊎ E
      at mask sides true e = elim (each mask sides ((passes_iff mask sides).0 e)) [ inl x ↦ inl (λ h. x) | inr x ↦ inr x ]
      at mask sides false e = inl (λ h. absurd (never ((passes_iff mask sides).1 h) e))

  -- .. and whether it does with a result that differs from these votes in at least k places
  passes_false : (ℕ → ℕ) → ℕ → ℕ → ℕ → Bool
  passes_false votes k mask sides = is_throw (parameters_of board) mask sides and accepts_false (parameters_of board) answer votes k mask sides

  false_passes : (votes : ℕ → ℕ) (k mask sides : ℕ) → passes_false votes k mask sides ≡ true
      → (passes mask sides ≡ true) × (k ≤ distance (parameters_of board).modulus (vote_of (parameters_of board) (answer mask sides)) votes (parameters_of board).ballots)
  unfolding passes_false accepts_false
  false_passes votes k mask sides e =
      let (thrown, (accepted, far)) = simp rules at e in
      ((passes_iff mask sides).1 record { thrown = thrown; accepted = accepted }, far)

module _ (board : List ℕ) (answer : Strategy) (f : Family board answer) where
  abbrev p : Parameters
  p = parameters_of board

  module _ (mask sides : ℕ) (h : Passed board answer mask sides) where
    pub its_parameters : parameters_of (answer mask sides) ≡ p
    its_parameters = parameters_of_lem board (answer mask sides) (f.boards mask sides h)

    pub first_alike : take (at_first_dice p) (answer mask sides) ≡ take (at_first_dice p) board
    first_alike =
        let d : ℕ = at_first_dice p in
        sym (take-take d d (answer mask sides) (le_refl d))
        ∙ ap (take d) (ap (λ (x : Parameters). take (at_first_dice x) (answer mask sides)) (sym its_parameters) ∙ f.boards mask sides h)

    stands : StandsOver (commitment p) (answer mask sides)
    stands =
        subst (λ (x : Parameters). StandsOver (commitment x) (answer mask sides)) its_parameters ((accepts_stands answer mask sides).0 h.accepted)

  -- what it says is valid, over the board of any list with the same bytes before the first dice
  pub valid : (q : List ℕ) → take (at_first_dice p) board ≡ take (at_first_dice p) q
      → (mask sides : ℕ) → Passed board answer mask sides
      → ValidOver (commitment p) (board_at p q) (comparison_at p (answer mask sides)) (disclosure_at p (answer mask sides))
  valid q e mask sides h =
      over_board p q (answer mask sides) (its_parameters mask sides h) (first_alike mask sides h ∙ e) (stands mask sides h)

  -- ---- no opening is shown in two ways

  -- the openings of list l that one answer shows in halves are those that the other shows in full
  abbrev SameEntries : ℕ → ℕ → ℕ → ℕ → ℕ → Type 0
  SameEntries mask₁ sides₁ mask₂ sides₂ l =
      Alike (board_at p board) (comparison_at p (answer mask₁ sides₁)) (disclosure_at p (answer mask₁ sides₁))
      (disclosure_at p (answer mask₂ sides₂)) l

  -- .. where the one's mask compares what the other's opens
  abbrev Agreed : ℕ → ℕ → ℕ → ℕ → Type 0
  Agreed mask₁ sides₁ mask₂ sides₂ = (l : ℕ) → l < lists p → bit mask₁ l ≡ 1 → bit mask₂ l ≡ 0 → SameEntries mask₁ sides₁ mask₂ sides₂ l

  pub record Unambiguous : Type 0 where
    pub entries : (mask₁ sides₁ : ℕ) → Passed board answer mask₁ sides₁ → (mask₂ sides₂ : ℕ) → Passed board answer mask₂ sides₂
        → Agreed mask₁ sides₁ mask₂ sides₂

  module _ (mask₁ sides₁ : ℕ) (h₁ : Passed board answer mask₁ sides₁) (mask₂ sides₂ : ℕ) (h₂ : Passed board answer mask₂ sides₂) where
    abbrev r₁ : List ℕ
    r₁ = answer mask₁ sides₁

    abbrev r₂ : List ℕ
    r₂ = answer mask₂ sides₂

    -- both are valid over the board of the first
    pub first_valid : ValidOver (commitment p) (board_at p r₁) (comparison_at p r₁) (disclosure_at p r₁)
    first_valid = valid r₁ (sym (first_alike mask₁ sides₁ h₁)) mask₁ sides₁ h₁

    pub second_valid : ValidOver (commitment p) (board_at p r₁) (comparison_at p r₂) (disclosure_at p r₂)
    second_valid = valid r₁ (sym (first_alike mask₁ sides₁ h₁)) mask₂ sides₂ h₂

    -- two answers that open a commitment in two ways
    pub answers_twice : OpenedTwiceOver (commitment p) r₁ r₁ r₂ → AnswersTwice board answer
    answers_twice t =
        record {
          mask₁ = mask₁;
          sides₁ = sides₁;
          mask₂ = mask₂;
          sides₂ = sides₂;
          passed₁ = h₁;
          passed₂ = h₂;
          opened = subst (λ (x : Parameters). OpenedTwiceOver (commitment x) r₁ r₁ r₂) (sym (its_parameters mask₁ sides₁ h₁)) t;
        }

    -- .. one in a half, the other in full
    clashing : Clash (board_at p r₁) (comparison_at p r₁) (disclosure_at p r₁) (comparison_at p r₂) (disclosure_at p r₂) → AnswersTwice board answer
    clashing t =
        answers_twice (clash_twice p r₁ r₁ r₂ r₁ (its_parameters mask₁ sides₁ h₁) (its_parameters mask₁ sides₁ h₁) (its_parameters mask₂ sides₂ h₂) refl
        first_valid second_valid (λ place o s. inl s) t)

    agreed_or : Agreed mask₁ sides₁ mask₂ sides₂ ⊎ AnswersTwice board answer
    agreed_or = all_or (lists p) (λ l ll. at l ll (ℕ_discrete (bit mask₁ l) 1) (ℕ_discrete (bit mask₂ l) 0))
      where
        at : (l : ℕ) → l < lists p → Dec (bit mask₁ l ≡ 1) → Dec (bit mask₂ l ≡ 0)
            → (bit mask₁ l ≡ 1 → bit mask₂ l ≡ 0 → SameEntries mask₁ sides₁ mask₂ sides₂ l) ⊎ AnswersTwice board answer
        at l ll (no s) c = inl (λ set. absurd (s set))
        at l ll (yes s) (no c) = inl (λ set clear. absurd (c clear))
        at l ll (yes s) (yes c) = do
          same ← alike_or (board_at p r₁) (comparison_at p r₁) (disclosure_at p r₁) (comparison_at p r₂) (disclosure_at p r₂) l ll
              (rw (f.masks mask₁ sides₁ h₁) s) (rw (f.masks mask₂ sides₂ h₂) c) clashing
          inl (λ set clear. same)

  pub unambiguous : Unambiguous ⊎ AnswersTwice board answer
  unambiguous = do
    agreed ← passed_or board answer (λ mask₁ sides₁ h₁. passed_or board answer (agreed_or mask₁ sides₁ h₁))
    inl record { entries = agreed }

  -- ---- under another mask than one that many sides pass

  module _ (u : Unambiguous) (votes : ℕ → ℕ) (fits : Fits board answer votes) where
    -- one mask, one comparison
    second_alike : (mask one other : ℕ) → Passed board answer mask one → Passed board answer mask other
        → take (at_second_dice p) (answer mask one) ≡ take (at_second_dice p) (answer mask other)
    second_alike mask one other h₁ h₂ =
        ap (λ (x : Parameters). take (at_second_dice x) (answer mask one)) (sym (its_parameters mask one h₁)) ∙ f.links mask one other h₁ h₂
        ∙ ap (λ (x : Parameters). take (at_second_dice x) (answer mask other)) (its_parameters mask other h₂)

    -- the sum of a ballot's six numbers
    summed : (mask s t j : ℕ) → Passed board answer mask s → Passed board answer mask t → j < p.ballots → bit s j ≢ bit t j
        → Summed (board_at p board) (disclosure_at p (answer mask s)) (disclosure_at p (answer mask t)) j (votes j)
    summed mask s t j hs ht lj ne =
        let o = fits.commits mask s mask t j hs ht lj ne in
        record {
          openings = o.openings;
          one = λ c lc. sym (rw (its_parameters mask s hs) at (o.shown₁ c lc));
          other = λ c lc. sym (rw (its_parameters mask t ht) at (o.shown₂ c lc));
          sum = rw (its_parameters mask s hs) at o.sum;
        }

    -- under mask₀ so many sides pass that fewer than k ballots have one side throughout
    elsewhere : (mask₀ k : ℕ) → k ≤ p.ballots → 2 ^ (p.ballots - k) < many_below (passes board answer mask₀) (2 ^ p.ballots)
        → (mask sides : ℕ) → Passed board answer mask sides → mask₀ ≢ mask
        → distance p.modulus (vote_of p (answer mask sides)) votes p.ballots < k
    elsewhere mask₀ k lk many mask sides h ne = go (below_some (passes board answer mask₀) (2 ^ n) (omega (arith, many)))
      where
        n : ℕ
        n = p.ballots

        r : List ℕ
        r = answer mask sides

        -- a list that mask₀ compares and the other mask opens
        t : Only (lists p) mask₀ mask
        t =
            let ((ones_are, low), some) = (thrown_iff p mask sides).0 h.thrown in
            let (s₀, l₀, e₀) = below_some (passes board answer mask₀) (2 ^ n) (omega (arith, many)) in
            let ((ones₀, low₀), some₀) = (thrown_iff p mask₀ s₀).0 ((passes_iff board answer mask₀ s₀).0 e₀).thrown in
            only (lists p) mask₀ mask low₀ low (le_of_eq (ones_are ∙ sym ones₀)) ne

        go : ((s₀ : ℕ) × (s₀ < 2 ^ n) × (passes board answer mask₀ s₀ ≡ true)) → distance p.modulus (vote_of p r) votes n < k
        go (s₀, l₀, e₀) =
            le_trans (suc-le-suc (few_differ (board_at p board) (comparison_at p r₀) (comparison_at p r) (disclosure_at p r) (passes board answer mask₀) d votes t.place t.below
            (rw (f.masks mask₀ s₀ h₀) t.set) (rw (f.masks mask sides h) t.clear) over (valid board refl mask sides h)
            (λ s j e. f.sides mask₀ s j (from s e)) (λ s t j es et. summed mask₀ s t j (from s es) (from t et)) alike s₀ e₀))
            (constant_less (passes board answer mask₀) n k lk many)
          where
            from : (s : ℕ) → passes board answer mask₀ s ≡ true → Passed board answer mask₀ s
            from s e = (passes_iff board answer mask₀ s).0 e

            h₀ : Passed board answer mask₀ s₀
            h₀ = from s₀ e₀

            r₀ : List ℕ
            r₀ = answer mask₀ s₀

            d : ℕ → Disclosure
            d s = disclosure_at p (answer mask₀ s)

            over : (s : ℕ) → passes board answer mask₀ s ≡ true → ValidOver (commitment p) (board_at p board) (comparison_at p r₀) (d s)
            over s e = over_comparison p board r₀ (answer mask₀ s) (d s) (second_alike mask₀ s s₀ (from s e) h₀) (valid board refl mask₀ s (from s e))

            alike : (s : ℕ) → passes board answer mask₀ s ≡ true → Alike (board_at p board) (comparison_at p r₀) (d s) (disclosure_at p r) t.place
            alike s e j lj c lc =
                rw (position_alike p r₀ (answer mask₀ s) (second_alike mask₀ s₀ s h₀ (from s e)) t.place j (rank_below (valid board refl mask₀ s (from s e)) t.place t.below (rw (f.masks mask₀ s (from s e)) t.set)) lj)
                (u.entries mask₀ s (from s e) mask sides h t.place t.below t.set t.clear j lj c lc)

    -- ---- the count

    module _ (k : ℕ) (lk : k ≤ p.ballots) where
      -- how many under one mask
      false_under : ℕ → ℕ
      false_under mask = many_below (passes_false board answer votes k mask) (2 ^ p.ballots)

      false_under_lem : (mask : ℕ) → false_under mask ≤ many_below (passes board answer mask) (2 ^ p.ballots)
      unfolding false_under
      false_under_lem mask = below_within (passes_false board answer votes k mask) (passes board answer mask) (2 ^ p.ballots) (λ sides l e. (false_passes board answer votes k mask sides e).0)

      -- few sides pass under each mask
      few_each : ((mask : ℕ) → mask < 2 ^ lists p → many_below (passes board answer mask) (2 ^ p.ballots) ≤ 2 ^ (p.ballots - k))
          → sum false_under (2 ^ lists p) ≤ choices p * 2 ^ (p.ballots - k)
      unfolding choices false_under
      few_each few =
          le_trans (sum_most false_under (λ mask. one_if (equal (ones mask) m) * most) (2 ^ lists p) (λ mask l. at mask l (equal (ones mask) m) refl))
          (le_of_eq (sum_times (λ mask. one_if (equal (ones mask) m)) most (2 ^ lists p)
          ∙ ap (λ (c : ℕ). c * most) (with_ones (lists p) m)))
        where
          m : ℕ
          m = p.compared

          most : ℕ
          most = 2 ^ (p.ballots - k)

          at : (mask : ℕ) → mask < 2 ^ lists p → (b : Bool) → equal (ones mask) m ≡ b → false_under mask ≤ one_if b * most
          at mask l true e = omega (arith, false_under_lem mask, few mask l)
          at mask l false e = omega (
            arith,
            below_none (passes_false board answer votes k mask) (2 ^ p.ballots) (λ sides ls. refuted (passes_false board answer votes k mask sides) (λ h.
                let ((o, low), some) = (thrown_iff p mask sides).0 ((passes_iff board answer mask sides).0 (false_passes board answer votes k mask sides h).0).thrown in
                never ((equal_iff (ones mask) m).1 o) e)),
          )

      -- many pass under one
      none_elsewhere : (mask₀ : ℕ) → mask₀ < 2 ^ lists p → 2 ^ (p.ballots - k) < many_below (passes board answer mask₀) (2 ^ p.ballots)
          → sum false_under (2 ^ lists p) ≤ 2 ^ p.ballots
      unfolding false_under
      none_elsewhere mask₀ l₀ many =
          le_trans (le_of_eq (sum_only false_under (2 ^ lists p) mask₀ l₀ (λ mask l ne. below_none (passes_false board answer votes k mask) (2 ^ p.ballots) (λ sides ls. refuted (passes_false board answer votes k mask sides) (none mask (λ e. ne (sym e)) sides)))))
          (below_most (passes_false board answer votes k mask₀) (2 ^ p.ballots))
        where
          none : (mask : ℕ) → mask₀ ≢ mask → (sides : ℕ) → passes_false board answer votes k mask sides ≡ true → ⊥
          none mask ne sides e =
              let (h, far) = false_passes board answer votes k mask sides e in
              let near = elsewhere mask₀ k lk many mask sides ((passes_iff board answer mask sides).0 h) ne in
              omega (arith, far, near)

      pub few_false : throws p (accepts_false p answer votes k) ≤ most_false p k
      unfolding throws most_false false_under passes_false
      few_false =
          elim (find {P = Few} {Q = Many} (2 ^ lists p) (λ mask l. at mask (dec_le (many_below (passes board answer mask) (2 ^ p.ballots)) (2 ^ (p.ballots - k))))) [
            | inl few ↦ omega (arith, few_each few)
            | inr t ↦ omega (arith, none_elsewhere t.0 t.1 t.2)
          ]
        where
          Few : ℕ → Type 0
          Few mask = many_below (passes board answer mask) (2 ^ p.ballots) ≤ 2 ^ (p.ballots - k)

          Many : ℕ → Type 0
          Many mask = 2 ^ (p.ballots - k) < many_below (passes board answer mask) (2 ^ p.ballots)

          at : (mask : ℕ) → Dec (many_below (passes board answer mask) (2 ^ p.ballots) ≤ 2 ^ (p.ballots - k)) → Few mask ⊎ Many mask
          at mask (yes l) = inl l
          at mask (no l) = inr (omega arith)
