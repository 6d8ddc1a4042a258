-- Document 02, item 2: "The winner and table follow from the votes' multiset alone." Two slices in which each number is as often have
-- the same counts in every round, and so the same rounds, winner, table and answer.
use mathlib.Core.Path.{◌≡◌, refl, ap, ap₂, fun_ext, ◌∙◌}
use mathlib.Core.Bool.{Bool}
use mathlib.Core.List.{List}
use Prim.Native.Nat.{ℕ, zero, suc, ◌+◌, ◌-◌}
use lib.ListN.{length, take, set}
use Rattle.laws.specs.Tests.{pick, equal, differ, ◌or◌, choose}
use Rattle.laws.specs.Sorting.{SameCounts}
use Rattle.laws.specs.Counting.{many_alike}
use Rattle.runoff.specs.Ranking.{blank, spoiled}
use Rattle.runoff.specs.Rounds.{winner_among, fewest_among, last_counts, start, support, counting, round_winner, decided, left_after, next, onward, result, entries, table, runoff_refusal, winner, blank_votes, spoiled_votes, ran_off, table_after}
use Rattle.runoff.specs.declared.Candidate.{Candidate}
use Rattle.runoff.specs.declared.Standings.{Standings}
use Rattle.runoff.proofs.Onward.{standings_same}

module _ (candidates : ℕ) (xs ys : List ℕ) (alike : SameCounts xs ys) where
  -- ---- a round, those still standing being given

  module _ (left : List ℕ) where
    pub support_alike : support candidates xs left ≡ support candidates ys left
    unfolding support
    support_alike = fun_ext (λ k. many_alike _ xs ys alike)

    pub counting_alike : counting candidates xs left ≡ counting candidates ys left
    unfolding counting
    counting_alike = many_alike _ xs ys alike

    pub round_winner_alike : round_winner candidates xs left ≡ round_winner candidates ys left
    unfolding round_winner
    round_winner_alike = ap₂ (λ (n : ℕ) (count : ℕ → ℕ). winner_among n count candidates) counting_alike support_alike

    pub decided_alike : decided candidates xs left ≡ decided candidates ys left
    unfolding decided
    decided_alike = ap₂ (λ (n w : ℕ). equal n 0 or differ w 0) counting_alike round_winner_alike

    pub left_alike : (round : ℕ) → left_after candidates xs left round ≡ left_after candidates ys left round
    unfolding left_after
    left_alike round =
        ap₂ (λ (over : Bool) (count : ℕ → ℕ). pick over left (set left (fewest_among left count candidates - 1) round)) decided_alike support_alike

  -- ---- the rounds one behind the other

  pub next_alike : (s : Standings) → next candidates xs s ≡ next candidates ys s
  unfolding next
  next_alike s =
      standings_same (ap (λ (count : ℕ → ℕ). last_counts s.left count s.counts) (support_alike s.left))
      (left_alike s.left (s.rounds + 1)) (round_winner_alike s.left) (decided_alike s.left)

  pub onward_alike : (n : ℕ) (s : Standings) → onward candidates xs n s ≡ onward candidates ys n s
  unfolding onward
  onward_alike zero s = refl
  onward_alike (suc n) s = ap (pick s.over s) (ap (onward candidates xs n) (next_alike s) ∙ onward_alike n (next candidates ys s))

  pub result_alike : result candidates xs ≡ result candidates ys
  unfolding result
  result_alike = onward_alike candidates start

-- ---- the winner, the table, and all that the entry answers and lends back

pub winner_alike : (candidates : ℕ) (xs ys : List ℕ) → SameCounts xs ys → winner candidates xs ≡ winner candidates ys
unfolding winner
winner_alike candidates xs ys alike = ap (λ (s : Standings). s.winner) (result_alike candidates xs ys alike)

pub table_alike : (candidates : ℕ) (xs ys : List ℕ) → SameCounts xs ys → table candidates xs ≡ table candidates ys
unfolding table
table_alike candidates xs ys alike = ap (λ (s : Standings). take candidates (entries s.counts s.left)) (result_alike candidates xs ys alike)

-- the blank and the spoiled votes are as many too
pub answer_alike : (candidates : ℕ) (xs ys : List ℕ) (long : ℕ) → SameCounts xs ys → ran_off candidates xs long ≡ ran_off candidates ys long
unfolding ran_off blank_votes spoiled_votes
answer_alike candidates xs ys long alike =
    let w = winner_alike candidates xs ys alike in
    let b = many_alike blank xs ys alike in
    let s = many_alike (spoiled candidates) xs ys alike in
    rw (w, b, s)

pub lent_alike : (candidates : ℕ) (xs ys : List ℕ) (before : List Candidate) → SameCounts xs ys → table_after candidates xs before ≡ table_after candidates ys before
unfolding table_after
lent_alike candidates xs ys before alike =
    ap (λ (t : List Candidate). choose (runoff_refusal candidates (length before)) t before) (table_alike candidates xs ys alike)
