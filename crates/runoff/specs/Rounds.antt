-- Document 02, item 2: a round, the rounds one behind the other, and the table.
use Rattle.std.specs.Prelude.{Bool, false, List, [], ◌∷◌, ℕ, zero, suc, ◌+◌, ◌-◌, ◌*◌, Option, None, Some, Result, unwrap_or, length, take, set, replicate}
use Rattle.laws.specs.Tests.{equal, differ, below, at_most, ◌and◌, ◌or◌, pick, choose}
use Rattle.laws.specs.Counting.{how_many}
use Rattle.laws.specs.Faults.{rule, kept}
use Rattle.laws.specs.Tables.{tabulate}
use Rattle.protocol.specs.Terms.{item}
use Rattle.protocol.specs.declared.Rule.{Rule}
use Rattle.protocol.specs.Answers.{Answer, answer_of, answer_in}
use Rattle.runoff.specs.Ranking.{blank, spoiled, standing, counts_for}
use Rattle.runoff.specs.declared.Candidate.{Candidate}
use Rattle.runoff.specs.declared.Standings.{Standings}
use Rattle.runoff.specs.declared.Counted.{Counted}

-- "candidates 1 to 9"
abbrev pub most_candidates : ℕ
most_candidates = 9

-- a candidate by number, where 0 is for none
abbrev pub candidate : ℕ → Option ℕ
candidate zero = None
candidate (suc k) = Some (suc k)

-- ---- a round's outcome, by how many votes count and how many of them for each candidate

-- "A candidate with more than half of the counting votes wins", among the first n candidates; 0 for none
unfoldable pub winner_among : ℕ → (ℕ → ℕ) → ℕ → ℕ
winner_among counting count zero = 0
winner_among counting count (suc n) = pick (below counting (2 * count (suc n))) (suc n) (winner_among counting count n)

-- "else the one standing with fewest leaves, of equals the highest number": of candidate k and one with a lower number, 0 for none
unfoldable pub fewer : List ℕ → (ℕ → ℕ) → ℕ → ℕ → ℕ
fewer left count k other = pick (standing left k and (equal other 0 or at_most (count k) (count other))) k other

-- among the first n candidates; 0 where none of them stands
unfoldable pub fewest_among : List ℕ → (ℕ → ℕ) → ℕ → ℕ
fewest_among left count zero = 0
fewest_among left count (suc n) = fewer left count (suc n) (fewest_among left count n)

-- "that candidate's last count": of who stands this round's, of who has left the one before
unfoldable pub last_counts : List ℕ → (ℕ → ℕ) → List ℕ → List ℕ
last_counts left count counts = tabulate (λ i. pick (standing left (suc i)) (count (suc i)) (item counts i)) most_candidates

-- before the first round
unfoldable pub start : Standings
start = record { counts = replicate most_candidates 0; left = replicate most_candidates 0; rounds = 0; winner = 0; over = false }

module _ (candidates : ℕ) (votes : List ℕ) where
  -- ---- a round, those still standing being given

  module _ (left : List ℕ) where
    -- how many votes count for a candidate; for 0, how many count for none
    unfoldable pub support : ℕ → ℕ
    support k = how_many (λ vote. equal (counts_for candidates left vote) k) votes

    -- how many "counting votes" there are
    unfoldable pub counting : ℕ
    counting = how_many (λ vote. differ (counts_for candidates left vote) 0) votes

    unfoldable pub round_winner : ℕ
    round_winner = winner_among counting support candidates

    -- it is over where one wins, and "If no vote counts"
    unfoldable pub decided : Bool
    decided = equal counting 0 or differ round_winner 0

    -- who leaves leaves in this round
    unfoldable pub left_after : ℕ → List ℕ
    left_after round = pick decided left (set left (fewest_among left support candidates - 1) round)

  -- ---- the rounds, "from 1"

  unfoldable pub next : Standings → Standings
  next s = record {
    counts = last_counts s.left (support s.left) s.counts;
    left = left_after s.left (s.rounds + 1);
    rounds = s.rounds + 1;
    winner = round_winner s.left;
    over = decided s.left;
  }

  -- n rounds more, or fewer where it is over before
  unfoldable pub onward : ℕ → Standings → Standings
  onward zero s = s
  onward (suc n) s = pick s.over s (onward n (next s))

  -- as many rounds as there are candidates are enough: `ends` in proofs/Ending.antt
  unfoldable pub result : Standings
  result = onward candidates start

-- ---- the table

-- "a table with one entry per candidate, which ends with that candidate's last count and round of leaving"
unfoldable pub entries : List ℕ → List ℕ → List Candidate
entries [] left = []
entries (n ∷ counts) [] = []
entries (n ∷ counts) (r ∷ left) = record { count = n; left = r } ∷ entries counts left

unfoldable pub table : ℕ → List ℕ → List Candidate
table candidates votes = let s = result candidates votes in take candidates (entries s.counts s.left)

-- ---- the entry

-- "Checks: 20, the number of candidates outside 1 to 9; then 18, the table not of that length."
unfoldable pub runoff_refusal : ℕ → ℕ → ℕ
runoff_refusal candidates table_long =
    rule 20 (at_most 1 candidates and at_most candidates most_candidates) (rule 18 (equal table_long candidates) kept)

-- the winner, 0 for none; "Blank and spoiled votes are counted apart."
unfoldable pub winner : ℕ → List ℕ → ℕ
winner candidates votes = (result candidates votes).winner

unfoldable pub blank_votes : List ℕ → ℕ
blank_votes votes = how_many blank votes

unfoldable pub spoiled_votes : ℕ → List ℕ → ℕ
spoiled_votes candidates votes = how_many (spoiled candidates) votes

unfoldable pub ran_off : ℕ → List ℕ → ℕ → Answer
ran_off candidates votes table_long =
    answer_of (runoff_refusal candidates table_long) (winner candidates votes ∷ blank_votes votes ∷ spoiled_votes candidates votes ∷ [])

-- the lent table at return, and as it was where it is refused
unfoldable pub table_after : ℕ → List ℕ → List Candidate → List Candidate
table_after candidates votes before = choose (runoff_refusal candidates (length before)) (table candidates votes) before

-- this paper's number and values for each of the answer's cases: the winner, 0 for none
abbrev pub runoff_answer : Result Counted Rule → Answer
runoff_answer = answer_in (λ counted. unwrap_or counted.winner 0 ∷ counted.blank ∷ counted.spoiled ∷ [])
