-- What the outcome of a round means: the winner is whoever has more than half, and who leaves has fewest, of equals the highest number.
use mathlib.Core.Path.{◌≡◌, refl, sym, ◌∙◌}
use mathlib.Core.Logic.{◌≢◌, ◌⊎◌, inl, inr}
use mathlib.Core.Bool.{Bool, true, false, not}
use mathlib.Core.List.{List, [], ◌∷◌}
use Prim.Native.Nat.{ℕ, zero, suc, ◌+◌, ◌*◌, ◌≤◌, ◌<◌}
use native.Mathlib.Decide.{ℕ_discrete, dec_le}
use native.Mathlib.Nat.{le_refl}
use native.Mathlib.Omega.{arith}
use lib.Dec.{eqb}
use lib.ListN.{length}
use Rattle.laws.specs.Tests.{pick, equal, differ, below, at_most, ◌and◌, ◌or◌, never, is_equal, not_equal, is_at_most, not_at_most, below_iff, below_fails, differ_iff, and_iff, at_most_iff, and_go, and_stop, or_go, or_stop}
use Rattle.laws.specs.Sums.{one_if}
use Rattle.laws.specs.Counting.{many_some, many_split, many_all}
use Rattle.runoff.specs.Ranking.{ranking, ranks, valid, standing, first_standing, counts_for}
use Rattle.runoff.specs.Rounds.{winner_among, fewer, fewest_among, support, counting}

-- ---- who wins

-- among the first n candidates one has more than half, or none has
pub record Wins (counting : ℕ) (count : ℕ → ℕ) (n w : ℕ) : Type 0 where
  pub from : 1 ≤ w
  pub to : w ≤ n
  pub majority : counting < 2 * count w

pub record NoneWins (counting : ℕ) (count : ℕ → ℕ) (n w : ℕ) : Type 0 where
  pub none : w ≡ 0
  pub at_most_half : (j : ℕ) → 1 ≤ j → j ≤ n → 2 * count j ≤ counting

module _ (counting : ℕ) (count : ℕ → ℕ) where
  pub winner_is : (n : ℕ) → Wins counting count n (winner_among counting count n) ⊎ NoneWins counting count n (winner_among counting count n)
  unfolding winner_among
  winner_is zero = inr (record { none = refl; at_most_half = λ j a b. absurd (omega arith) })
  winner_is (suc n) = go (below counting (2 * count (suc n))) refl (winner_is n)
    where
      go : (b : Bool) → below counting (2 * count (suc n)) ≡ b
          → Wins counting count n (winner_among counting count n) ⊎ NoneWins counting count n (winner_among counting count n)
          → Wins counting count (suc n) (pick b (suc n) (winner_among counting count n)) ⊎ NoneWins counting count (suc n) (pick b (suc n) (winner_among counting count n))
      go true e h = inl (record { from = omega arith; to = le_refl (suc n); majority = (below_iff counting (2 * count (suc n))).0 e })
      go false e (inl h) = inl (record { from = h.from; to = omega (arith, h.to); majority = h.majority })
      go false e (inr h) = inr (record { none = h.none; at_most_half = λ j a b. half j a b (ℕ_discrete j (suc n)) })
        where
          half : (j : ℕ) → 1 ≤ j → j ≤ suc n → Dec (j ≡ suc n) → 2 * count j ≤ counting
          half j a b (yes s) = rw s ((below_fails counting (2 * count (suc n))).0 e)
          half j a b (no ne) = h.at_most_half j a (omega arith)

-- ---- who leaves

pub record Leaves (left : List ℕ) (count : ℕ → ℕ) (n f : ℕ) : Type 0 where
  pub from : 1 ≤ f
  pub to : f ≤ n
  pub stands : standing left f ≡ true
  pub fewest : (j : ℕ) → 1 ≤ j → j ≤ n → standing left j ≡ true → count f ≤ count j
  pub highest : (j : ℕ) → 1 ≤ j → j ≤ n → standing left j ≡ true → count j ≡ count f → j ≤ f

pub record NoneStands (left : List ℕ) (n f : ℕ) : Type 0 where
  pub none : f ≡ 0
  pub gone : (j : ℕ) → 1 ≤ j → j ≤ n → standing left j ≡ false

module _ (left : List ℕ) (count : ℕ → ℕ) where
  abbrev Fewest : ℕ → ℕ → Type 0
  Fewest n f = Leaves left count n f ⊎ NoneStands left n f

  step : (n f : ℕ) → Fewest n f → Fewest (suc n) (fewer left count (suc n) f)
  unfolding fewer
  step n f h = go (standing left (suc n)) refl h (ℕ_discrete f 0) (dec_le (count (suc n)) (count f))
    where
      at : (P : ℕ → Type 0) → P (suc n) → ((j : ℕ) → 1 ≤ j → j ≤ n → P j) → (j : ℕ) → 1 ≤ j → j ≤ suc n → P j
      at P last before j a b = elim (ℕ_discrete j (suc n)) [ yes s ↦ rw s last | no ne ↦ before j a (omega arith) ]

      stays : standing left (suc n) ≡ false → (standing left (suc n) and (equal f 0 or at_most (count (suc n)) (count f))) ≡ false
      stays s = sym (and_stop _ _ s)

      alone : standing left (suc n) ≡ true → f ≡ 0 → (standing left (suc n) and (equal f 0 or at_most (count (suc n)) (count f))) ≡ true
      alone s z = sym (and_go _ _ s (or_stop _ _ (is_equal z)))

      less : standing left (suc n) ≡ true → f ≢ 0 → count (suc n) ≤ count f
          → (standing left (suc n) and (equal f 0 or at_most (count (suc n)) (count f))) ≡ true
      less s z d = sym (and_go _ _ s (or_go _ _ (not_equal z) (sym (is_at_most d))))

      more : standing left (suc n) ≡ true → f ≢ 0 → count f < count (suc n)
          → (standing left (suc n) and (equal f 0 or at_most (count (suc n)) (count f))) ≡ false
      more s z d = sym (and_go _ _ s (or_go _ _ (not_equal z) (sym (not_at_most d))))

      -- the new one leaves
      new : standing left (suc n) ≡ true → ((j : ℕ) → 1 ≤ j → j ≤ n → standing left j ≡ true → count (suc n) ≤ count j) → Fewest (suc n) (suc n)
      new s least = inl (record {
        from = omega arith;
        to = le_refl (suc n);
        stands = s;
        fewest = at (λ j. standing left j ≡ true → count (suc n) ≤ count j) (λ t. le_refl (count (suc n))) least;
        highest = λ j a b t e. b;
      })

      -- the one before leaves
      old : Leaves left count n f → (standing left (suc n) ≡ true → count f < count (suc n)) → Fewest (suc n) f
      old h above = inl (record {
        from = h.from;
        to = omega (arith, h.to);
        stands = h.stands;
        fewest = at (λ j. standing left j ≡ true → count f ≤ count j) (λ t. omega (arith, above t)) h.fewest;
        highest = at (λ j. standing left j ≡ true → count j ≡ count f → j ≤ f) (λ t e. absurd (omega (arith, above t))) h.highest;
      })

      go : (b : Bool) → standing left (suc n) ≡ b → Fewest n f → Dec (f ≡ 0) → Dec (count (suc n) ≤ count f)
          → Fewest (suc n) (pick (standing left (suc n) and (equal f 0 or at_most (count (suc n)) (count f))) (suc n) f)
      go false s (inl h) z d = rw (stays s) (old h (λ t. absurd (never t s)))
      go false s (inr h) z d = rw (stays s) (inr (record { none = h.none; gone = at (λ j. standing left j ≡ false) s h.gone }))
      go true s (inl h) (yes z) d = absurd (omega (arith, h.from))
      go true s (inr h) (yes z) d = rw (alone s z) (new s (λ j a b t. absurd (never t (h.gone j a b))))
      go true s (inl h) (no z) (yes d) = rw (less s z d) (new s (λ j a b t. omega (arith, h.fewest j a b t)))
      go true s (inl h) (no z) (no d) = rw (more s z (omega arith)) (old h (λ t. omega arith))
      go true s (inr h) (no z) d = absurd (z h.none)

  pub fewest_is : (n : ℕ) → Fewest n (fewest_among left count n)
  unfolding fewest_among
  fewest_is zero = inr (record { none = refl; gone = λ j a b. absurd (omega arith) })
  fewest_is (suc n) = step n (fewest_among left count n) (fewest_is n)

-- it is one only
pub leaves_one : {left : List ℕ} {count : ℕ → ℕ} {n j k : ℕ} → Leaves left count n j → Leaves left count n k → j ≡ k
leaves_one {left} {count} {n} {j} {k} a b =
    let e : count j ≡ count k = omega (arith, a.fewest k b.from b.to b.stands, b.fewest j a.from a.to a.stands) in
    omega (arith, a.highest k b.from b.to b.stands (sym e), b.highest j a.from a.to a.stands e)

-- ---- a vote that counts counts for a candidate who stands

module _ (candidates : ℕ) (left : List ℕ) where
  first_stands : (ks : List ℕ) → ranks candidates ks ≡ true → first_standing left ks ≢ 0
      → let k = first_standing left ks in ((1 ≤ k) × (k ≤ candidates)) × (standing left k ≡ true)
  unfolding ranks first_standing
  first_stands [] h some = absurd (some refl)
  first_stands (k ∷ ks) h some = go (standing left k) refl (first_stands ks ((and_iff _ _).0 ((and_iff _ _).0 h).1).1) some
    where
      go : (b : Bool) → standing left k ≡ b
          → (first_standing left ks ≢ 0 → ((1 ≤ first_standing left ks) × (first_standing left ks ≤ candidates)) × (standing left (first_standing left ks) ≡ true))
          → pick b k (first_standing left ks) ≢ 0
          → let f = pick b k (first_standing left ks) in ((1 ≤ f) × (f ≤ candidates)) × (standing left f ≡ true)
      go true s ih some = let (a, b) = (and_iff _ _).0 ((and_iff _ _).0 h).0 in (((at_most_iff 1 k).0 a, (at_most_iff k candidates).0 b), s)
      go false s ih some = ih some

  pub counts_stands : (vote : ℕ) → counts_for candidates left vote ≢ 0
      → let k = counts_for candidates left vote in ((1 ≤ k) × (k ≤ candidates)) × (standing left k ≡ true)
  unfolding counts_for valid
  counts_stands vote = go (ranks candidates (ranking vote)) refl
    where
      go : (b : Bool) → ranks candidates (ranking vote) ≡ b → pick b (first_standing left (ranking vote)) 0 ≢ 0
          → let k = pick b (first_standing left (ranking vote)) 0 in ((1 ≤ k) × (k ≤ candidates)) × (standing left k ≡ true)
      go true e some = first_stands (ranking vote) e some
      go false e some = absurd (some refl)

-- ---- the figures of a round

one_split : (x : ℕ) → one_if true ≡ one_if (differ x 0) + one_if (equal x 0)
unfolding differ equal
one_split x = go (eqb x 0)
  where
    go : (b : Bool) → 1 ≡ one_if (not b) + one_if b
    go true = refl
    go false = refl

module _ (candidates : ℕ) (votes left : List ℕ) where
  -- every vote counts or counts for none
  pub counting_with : length votes ≡ counting candidates votes left + support candidates votes left 0
  unfolding counting support
  counting_with =
      sym (many_all (λ vote. true) votes (λ vote. refl))
      ∙ many_split (λ vote. true) _ _ votes (λ vote. one_split (counts_for candidates left vote))

  -- where votes count, somebody stands and leaves
  pub leaves_some : counting candidates votes left ≢ 0 → Leaves left (support candidates votes left) candidates (fewest_among left (support candidates votes left) candidates)
  unfolding counting
  leaves_some h = go (fewest_is left (support candidates votes left) candidates) (many_some _ votes h)
    where
      go : Leaves left (support candidates votes left) candidates (fewest_among left (support candidates votes left) candidates)
          ⊎ NoneStands left candidates (fewest_among left (support candidates votes left) candidates)
          → (vote : ℕ) × (differ (counts_for candidates left vote) 0 ≡ true)
          → Leaves left (support candidates votes left) candidates (fewest_among left (support candidates votes left) candidates)
      go (inl l) v = l
      go (inr g) (vote, d) =
          let ((a, b), s) = counts_stands candidates left vote ((differ_iff _ 0).0 d) in
          absurd (never s (g.gone _ a b))
