-- Document 02, item 2: in a round every vote is counted once: for a candidate, as exhausted, as blank or as spoiled.
use mathlib.Core.Path.{◌≡◌, refl, sym, ap}
use mathlib.Core.Bool.{Bool, true, false, not}
use mathlib.Core.List.{List, [], ◌∷◌}
use Prim.Native.Nat.{ℕ, zero, suc, ◌+◌, ◌≤◌}
use native.Mathlib.Decide.{ℕ_discrete}
use native.Mathlib.Omega.{arith}
use lib.ListN.{length}
use Rattle.laws.specs.Tests.{pick, equal, differ, ◌and◌, is_equal, not_equal, is_differ, not_differ, and_go, and_stop}
use Rattle.laws.specs.Sums.{one_if, sum, sum_add, sum_none}
use Rattle.laws.specs.Counting.{how_many, many_split}
use Rattle.runoff.specs.Ranking.{ranking, valid, blank, spoiled, first_standing, counts_for}
use Rattle.runoff.specs.Rounds.{support, counting, blank_votes, spoiled_votes}
use Rattle.runoff.proofs.Rankings.{zero_invalid}
use Rattle.runoff.proofs.Deciding.{counts_stands}

-- a valid vote all of whose candidates have left
unfoldable pub exhausted : ℕ → List ℕ → ℕ → Bool
exhausted candidates left vote = valid candidates vote and equal (counts_for candidates left vote) 0

-- "No digit is 0, above the number of candidates or repeated; vote 0 is blank, and any other vote is spoiled.": a vote is of one kind
pub one_kind : (candidates vote : ℕ) → one_if (valid candidates vote) + (one_if (blank vote) + one_if (spoiled candidates vote)) ≡ 1
unfolding blank spoiled
one_kind candidates vote = go (ℕ_discrete vote 0) (valid candidates vote) refl
  where
    go : Dec (vote ≡ 0) → (b : Bool) → valid candidates vote ≡ b
        → one_if (valid candidates vote) + (one_if (equal vote 0) + one_if (differ vote 0 and not (valid candidates vote))) ≡ 1
    go (yes z) b e = omega (
      arith,
      ap (λ (v : ℕ). one_if (valid candidates v)) z,
      ap one_if (zero_invalid candidates [] 0),
      ap one_if (is_equal z),
      ap one_if (sym (and_stop (differ vote 0) (not (valid candidates vote)) (not_differ z))),
    )
    go (no some) true e = omega (
      arith,
      ap one_if e,
      ap one_if (not_equal some),
      ap one_if (sym (and_go (differ vote 0) (not (valid candidates vote)) (is_differ some) (ap not (sym e)))),
    )
    go (no some) false e = omega (
      arith,
      ap one_if e,
      ap one_if (not_equal some),
      ap one_if (sym (and_go (differ vote 0) (not (valid candidates vote)) (is_differ some) (ap not (sym e)))),
    )

-- so the votes of the three kinds are all
kinds : (candidates : ℕ) (votes : List ℕ) → how_many (valid candidates) votes + (how_many blank votes + how_many (spoiled candidates) votes) ≡ length votes
unfolding how_many
kinds candidates [] = refl
kinds candidates (vote ∷ votes) = omega (arith, one_kind candidates vote, kinds candidates votes)

-- ---- the votes that count are those for the candidates

-- a number of at most n is 0 or one of 1 to n
one_of_them : (k n : ℕ) → k ≤ n → sum (λ i. one_if (equal k (suc i))) n ≡ one_if (differ k 0)
one_of_them k zero h = ap one_if (sym (not_differ {a = k} {b = 0} (omega arith)))
one_of_them k (suc n) h = go (ℕ_discrete k (suc n)) (one_of_them k n)
  where
    go : Dec (k ≡ suc n) → (k ≤ n → sum (λ i. one_if (equal k (suc i))) n ≡ one_if (differ k 0))
        → sum (λ i. one_if (equal k (suc i))) n + one_if (equal k (suc n)) ≡ one_if (differ k 0)
    go (yes e) ih = omega (
      arith,
      ap one_if (is_equal e),
      ap one_if (is_differ {a = k} {b = 0} (omega arith)),
      sum_none (λ i. one_if (equal k (suc i))) n (λ i l. ap one_if (not_equal (omega arith))),
    )
    go (no ne) ih = omega (arith, ap one_if (not_equal ne), ih (omega arith))

sum_many : (t : ℕ → ℕ → Bool) (u : ℕ → Bool) (n : ℕ) (votes : List ℕ) → ((vote : ℕ) → sum (λ i. one_if (t i vote)) n ≡ one_if (u vote))
    → sum (λ i. how_many (t i) votes) n ≡ how_many u votes
unfolding how_many
sum_many t u n [] h = sum_none (λ i. 0) n (λ i l. refl)
sum_many t u n (vote ∷ votes) h = omega (arith, sum_add (λ i. one_if (t i vote)) (λ i. how_many (t i) votes) n, h vote, sum_many t u n votes h)

module _ (candidates : ℕ) (votes left : List ℕ) where
  -- the counts of the candidates add up to the counting votes
  pub counting_is : sum (λ i. support candidates votes left (suc i)) candidates ≡ counting candidates votes left
  unfolding support counting
  counting_is =
      sum_many (λ i vote. equal (counts_for candidates left vote) (suc i)) (λ vote. differ (counts_for candidates left vote) 0) candidates votes
      (λ vote. one_of_them (counts_for candidates left vote) candidates (most vote (ℕ_discrete (counts_for candidates left vote) 0)))
    where
      most : (vote : ℕ) → Dec (counts_for candidates left vote ≡ 0) → counts_for candidates left vote ≤ candidates
      most vote (yes z) = omega arith
      most vote (no some) = (counts_stands candidates left vote some).0.1

  -- a valid vote counts or is exhausted
  valid_counts : how_many (valid candidates) votes ≡ counting candidates votes left + how_many (exhausted candidates left) votes
  unfolding counting exhausted counts_for
  valid_counts =
      many_split (valid candidates) (λ vote. differ (counts_for candidates left vote) 0) (exhausted candidates left) votes
      (λ vote. go (valid candidates vote) (first_standing left (ranking vote)) (ℕ_discrete (first_standing left (ranking vote)) 0))
    where
      go : (b : Bool) (k : ℕ) → Dec (k ≡ 0) → one_if b ≡ one_if (differ (pick b k 0) 0) + one_if (b and equal (pick b k 0) 0)
      go true k (yes z) = omega (arith, ap one_if (not_differ z), ap one_if (sym (and_go true (equal k 0) refl refl)), ap one_if (is_equal z))
      go true k (no some) = omega (arith, ap one_if (is_differ some), ap one_if (sym (and_go true (equal k 0) refl refl)), ap one_if (not_equal some))
      go false k d = omega (arith, ap one_if (not_differ {a = 0} {b = 0} refl), ap one_if (sym (and_stop false (equal 0 0) refl)))

  -- "Blank and spoiled votes are counted apart.": every vote is for a candidate, exhausted, blank or spoiled
  pub adds_up : sum (λ i. support candidates votes left (suc i)) candidates + how_many (exhausted candidates left) votes + blank_votes votes + spoiled_votes candidates votes
      ≡ length votes
  unfolding blank_votes spoiled_votes
  adds_up = omega (arith, counting_is, valid_counts, kinds candidates votes)
