-- What a round that is not decided does: one candidate leaves, and only the votes that counted for that candidate move on.
use mathlib.Core.Path.{◌≡◌, refl, sym, ap, ◌∙◌}
use mathlib.Core.Logic.{◌≢◌, ◌⊎◌, inl, inr}
use mathlib.Core.Bool.{Bool, true, false}
use mathlib.Core.List.{List, [], ◌∷◌}
use Prim.Native.Nat.{ℕ, suc, ◌+◌, ◌-◌, ◌*◌, ◌≤◌, ◌<◌}
use native.Mathlib.Decide.{ℕ_discrete}
use native.Mathlib.Omega.{arith}
use lib.ListN.{length, set}
use lib.Seq.{get_or-set_same, get_or-set_other}
use Rattle.laws.specs.Tests.{pick, equal, differ, never, is_equal, not_equal, is_differ, not_differ, unequal_iff, differ_fails, and_iff, at_most_iff, or_fails}
use Rattle.laws.specs.Sums.{one_if, sum, sum_change, sum_one}
use Rattle.laws.specs.Counting.{how_many, many_none, many_within, many_both}
use Rattle.runoff.specs.Ranking.{ranking, ranks, valid, standing, first_standing, counts_for}
use Rattle.runoff.specs.Rounds.{fewest_among, winner_among, support, counting, round_winner, decided, left_after}
use Rattle.runoff.proofs.Outcomes.{picked, unpicked}
use Rattle.runoff.proofs.Deciding.{Wins, NoneWins, winner_is, Leaves, leaves_some, counts_stands}

-- ---- candidate f leaves in round r

module _ (candidates : ℕ) (left : List ℕ) (f r : ℕ) (from : 1 ≤ f) (stands : standing left f ≡ true) where
  -- the others stand or have left as before
  pub other_stands : (j : ℕ) → 1 ≤ j → j ≢ f → standing (set left (f - 1) r) j ≡ standing left j
  unfolding standing
  other_stands j low ne = ap (λ (n : ℕ). equal n 0) (get_or-set_other left (f - 1) (j - 1) r 0 (omega arith))

  first_stays : (ks : List ℕ) → ranks candidates ks ≡ true → first_standing left ks ≢ f → first_standing (set left (f - 1) r) ks ≡ first_standing left ks
  unfolding ranks first_standing
  first_stays [] h ne = refl
  first_stays (j ∷ js) h ne =
      go (standing left j) refl ne (first_stays js ((and_iff _ _).0 ((and_iff _ _).0 h).1).1)
    where
      low : 1 ≤ j
      low = (at_most_iff 1 j).0 ((and_iff _ _).0 ((and_iff _ _).0 h).0).0

      go : (b : Bool) → standing left j ≡ b → pick b j (first_standing left js) ≢ f
          → (first_standing left js ≢ f → first_standing (set left (f - 1) r) js ≡ first_standing left js)
          → pick (standing (set left (f - 1) r) j) j (first_standing (set left (f - 1) r) js) ≡ pick b j (first_standing left js)
      go true s other ih = picked j _ (other_stands j low other ∙ s)
      go false s other ih = unpicked j _ (other_stands j low (λ e. never (ap (standing left) e ∙ stands) s) ∙ s) ∙ ih other

  -- a vote that does not count for the one who leaves counts for the same candidate as before
  pub counts_stays : (vote : ℕ) → counts_for candidates left vote ≢ f → counts_for candidates (set left (f - 1) r) vote ≡ counts_for candidates left vote
  unfolding counts_for valid
  counts_stays vote = go (ranks candidates (ranking vote)) refl
    where
      go : (b : Bool) → ranks candidates (ranking vote) ≡ b → pick b (first_standing left (ranking vote)) 0 ≢ f
          → pick b (first_standing (set left (f - 1) r) (ranking vote)) 0 ≡ pick b (first_standing left (ranking vote)) 0
      go true e ne = first_stays (ranking vote) e ne
      go false e ne = refl

-- ---- how many of the first n candidates stand

unfoldable pub standing_of : List ℕ → ℕ → ℕ
standing_of left n = sum (λ i. one_if (standing left (suc i))) n

pub some_standing : (left : List ℕ) (n k : ℕ) → 1 ≤ k → k ≤ n → standing left k ≡ true → 1 ≤ standing_of left n
unfolding standing_of
some_standing left n k low high s =
    let e : suc (k - 1) ≡ k = omega arith in
    let one : one_if (standing left (suc (k - 1))) ≡ 1 = ap (λ (j : ℕ). one_if (standing left j)) e ∙ ap one_if s in
    omega (arith, one, sum_one (λ i. one_if (standing left (suc i))) n (k - 1) (omega arith))

-- who leaves has left
pub gone_now : (left : List ℕ) (f r : ℕ) → 1 ≤ f → f ≤ length left → 1 ≤ r → standing (set left (f - 1) r) f ≡ false
unfolding standing
gone_now left f r low inside some = not_equal (λ z. absurd (omega (arith, get_or-set_same left (f - 1) r 0 (omega arith))))

-- one fewer
pub one_gone : (left : List ℕ) (n f r : ℕ) → 1 ≤ f → f ≤ n → f ≤ length left → 1 ≤ r → standing left f ≡ true
    → standing_of (set left (f - 1) r) n + 1 ≡ standing_of left n
unfolding standing_of
one_gone left n f r low high inside some s =
    let e : suc (f - 1) ≡ f = omega arith in
    let was : one_if (standing left (suc (f - 1))) ≡ 1 = ap (λ (j : ℕ). one_if (standing left j)) e ∙ ap one_if s in
    let now : one_if (standing (set left (f - 1) r) (suc (f - 1))) ≡ 0 = ap (λ (j : ℕ). one_if (standing (set left (f - 1) r) j)) e ∙ ap one_if (gone_now left f r low inside some) in
    omega (
      arith,
      was,
      now,
      sum_change (λ i. one_if (standing (set left (f - 1) r) (suc i))) (λ i. one_if (standing left (suc i))) n (f - 1) (omega arith)
          (λ j l ne. ap one_if (other_stands n left f r low s (suc j) (omega arith) (λ q. ne (omega arith)))),
    )

-- ---- the figures of a round

module _ (candidates : ℕ) (votes left : List ℕ) where
  -- what has left never counts again
  pub gone_uncounted : (k : ℕ) → standing left k ≡ false → 1 ≤ k → support candidates votes left k ≡ 0
  unfolding support
  gone_uncounted k gone low =
      many_none _ votes (λ vote. not_equal (λ e. never (rw e at (counts_stands candidates left vote (λ z. absurd (omega arith))).1) gone))

  -- the votes for a candidate count, and so do those for two
  pub support_most : (k : ℕ) → 1 ≤ k → support candidates votes left k ≤ counting candidates votes left
  unfolding support counting
  support_most k low =
      omega (
        arith,
        many_none (λ vote. false) votes (λ vote. refl),
        many_within (λ vote. equal (counts_for candidates left vote) k) (λ vote. differ (counts_for candidates left vote) 0) (λ vote. false) votes
            (λ vote. go vote (ℕ_discrete (counts_for candidates left vote) k)),
      )
    where
      go : (vote : ℕ) → Dec (counts_for candidates left vote ≡ k)
          → one_if (equal (counts_for candidates left vote) k) ≤ one_if (differ (counts_for candidates left vote) 0) + one_if false
      go vote (yes e) = omega (arith, ap one_if (is_equal e), ap one_if (is_differ {a = counts_for candidates left vote} {b = 0} (omega arith)))
      go vote (no ne) = omega (arith, ap one_if (not_equal ne))

  pub two_most : (j k : ℕ) → 1 ≤ j → 1 ≤ k → j ≢ k → support candidates votes left j + support candidates votes left k ≤ counting candidates votes left
  unfolding support counting
  two_most j k lj lk ne = many_both _ _ _ votes (λ vote. go (counts_for candidates left vote) (ℕ_discrete (counts_for candidates left vote) j) (ℕ_discrete (counts_for candidates left vote) k))
    where
      go : (x : ℕ) → Dec (x ≡ j) → Dec (x ≡ k) → one_if (equal x j) + one_if (equal x k) ≤ one_if (differ x 0)
      go x (yes e) (yes g) = absurd (ne (sym e ∙ g))
      go x (yes e) (no g) = omega (arith, ap one_if (is_equal e), ap one_if (not_equal g), ap one_if (is_differ {a = x} {b = 0} (omega arith)))
      go x (no e) (yes g) = omega (arith, ap one_if (not_equal e), ap one_if (is_equal g), ap one_if (is_differ {a = x} {b = 0} (omega arith)))
      go x (no e) (no g) = omega (arith, ap one_if (not_equal e), ap one_if (not_equal g))

  -- who has more than half stands, and is the only one
  pub wins_stands : {w : ℕ} → Wins (counting candidates votes left) (support candidates votes left) candidates w → standing left w ≡ true
  wins_stands {w} h = go (standing left w) refl
    where
      go : (b : Bool) → standing left w ≡ b → standing left w ≡ true
      go true e = e
      go false e = absurd (omega (arith, h.majority, gone_uncounted w e h.from))

  pub wins_alone : {w : ℕ} → Wins (counting candidates votes left) (support candidates votes left) candidates w → (j : ℕ) → 1 ≤ j
      → counting candidates votes left < 2 * support candidates votes left j → j ≡ w
  wins_alone {w} h j low m = elim (ℕ_discrete j w) [ yes e ↦ e | no ne ↦ absurd (omega (arith, h.majority, two_most j w low h.from ne)) ]

  -- only valid votes count
  pub counting_valid : counting candidates votes left ≤ how_many (valid candidates) votes
  unfolding counting counts_for
  counting_valid =
      omega (
        arith,
        many_none (λ vote. false) votes (λ vote. refl),
        many_within (λ vote. differ (counts_for candidates left vote) 0) (valid candidates) (λ vote. false) votes (λ vote. go vote (valid candidates vote)),
      )
    where
      most : (b : Bool) → one_if b ≤ 1
      most true = omega arith
      most false = omega arith

      go : (vote : ℕ) (b : Bool) → one_if (differ (pick b (first_standing left (ranking vote)) 0) 0) ≤ one_if b + one_if false
      go vote true = omega (arith, most (differ (first_standing left (ranking vote)) 0))
      go vote false = omega (arith, ap one_if (not_differ {a = 0} {b = 0} refl))

  -- ---- a round that is not decided

  abbrev leaver : ℕ
  leaver = fewest_among left (support candidates votes left) candidates

  module _ (open_still : decided candidates votes left ≡ false) where
    -- some vote counts
    pub open_some : counting candidates votes left ≢ 0
    unfolding decided
    open_some = (unequal_iff _ 0).0 ((or_fails (equal (counting candidates votes left) 0) _).0 open_still).0

    -- nobody has more than half
    pub open_half : (j : ℕ) → 1 ≤ j → j ≤ candidates → 2 * support candidates votes left j ≤ counting candidates votes left
    unfolding decided round_winner
    open_half j low high = go (winner_is (counting candidates votes left) (support candidates votes left) candidates)
      where
        none : winner_among (counting candidates votes left) (support candidates votes left) candidates ≡ 0
        none = (differ_fails _ 0).0 ((or_fails (equal (counting candidates votes left) 0) _).0 open_still).1

        go : Wins (counting candidates votes left) (support candidates votes left) candidates (winner_among (counting candidates votes left) (support candidates votes left) candidates)
            ⊎ NoneWins (counting candidates votes left) (support candidates votes left) candidates (winner_among (counting candidates votes left) (support candidates votes left) candidates)
            → 2 * support candidates votes left j ≤ counting candidates votes left
        go (inl h) = absurd (omega (arith, h.from, none))
        go (inr h) = h.at_most_half j low high

    -- "else the one standing with fewest leaves, of equals the highest number"
    pub leaver_is : Leaves left (support candidates votes left) candidates (fewest_among left (support candidates votes left) candidates)
    leaver_is = leaves_some candidates votes left open_some

    pub left_is : (r : ℕ) → left_after candidates votes left r ≡ set left (leaver - 1) r
    unfolding left_after
    left_is r = unpicked left _ open_still

    -- only the votes for the one who leaves may count no more
    moved : (r : ℕ) → counting candidates votes left ≤ support candidates votes left leaver + counting candidates votes (set left (leaver - 1) r)
    unfolding counting support
    moved r = many_within _ _ _ votes (λ vote. go vote (ℕ_discrete (counts_for candidates left vote) leaver))
      where
        go : (vote : ℕ) → Dec (counts_for candidates left vote ≡ leaver)
            → one_if (differ (counts_for candidates left vote) 0)
            ≤ one_if (equal (counts_for candidates left vote) leaver) + one_if (differ (counts_for candidates (set left (leaver - 1) r) vote) 0)
        go vote (yes e) = omega (arith, ap one_if (is_equal e), ap one_if (is_differ {a = counts_for candidates left vote} {b = 0} (omega (arith, leaver_is.from))))
        go vote (no ne) = omega (arith, ap (λ (k : ℕ). one_if (differ k 0)) (counts_stays candidates left leaver r leaver_is.from leaver_is.stands vote ne))

    -- the one who leaves has at most half of the counting votes, and the others still count: so after the round some vote counts
    pub still_counts : (r : ℕ) → counting candidates votes (left_after candidates votes left r) ≢ 0
    still_counts r z = absurd (omega (arith, open_some, open_half leaver leaver_is.from leaver_is.to, moved r, ap (counting candidates votes) (left_is r)))
