-- Document 02, item 2: elections worked out by hand from the item's sentences, against what the definitions give. One fact is about all
-- rows.
use mathlib.Core.Path.{◌≡◌, refl}
use mathlib.Core.List.{List, [], ◌∷◌, map}
use Prim.Native.Nat.{ℕ}
use lib.ListN.{length, replicate}
use Rattle.laws.specs.Tests.{equal, differ, below, at_most, ◌and◌, ◌or◌, choose}
use Rattle.laws.specs.Faults.{rule}
use Rattle.laws.specs.Counting.{how_many}
use Rattle.laws.specs.Tables.{tabulate}
use Rattle.protocol.specs.Terms.{digits, decimal}
use Rattle.protocol.specs.Answers.{Answer, done, refused, answer_of}
use Rattle.runoff.specs.Ranking.{ranking, ranks, valid, blank, spoiled, standing, first_standing, counts_for}
use Rattle.runoff.specs.Rounds.{winner_among, fewer, fewest_among, last_counts, start, support, counting, round_winner, decided, left_after, next, onward, result, entries, table, runoff_refusal, winner, blank_votes, spoiled_votes, ran_off, table_after}
use Rattle.runoff.specs.declared.Candidate.{Candidate}

-- a candidate's last count and round of leaving
pub entry : ℕ → ℕ → Candidate
entry n round = record { count = n; left = round }

-- an election and what is expected of it; the table's length is that of the expected one
pub record Row : Type 0 where
  pub candidates : ℕ
  pub votes : List ℕ
  pub winner : ℕ
  pub blank : ℕ
  pub spoiled : ℕ
  pub table : List Candidate

pub samples : List Row
samples =
    -- more than half at once: 2 of 3
    record { candidates = 2; votes = 1 ∷ 2 ∷ 1 ∷ []; winner = 1; blank = 0; spoiled = 0; table = entry 2 0 ∷ entry 1 0 ∷ [] }
    -- digits from the left: 21 and 231 are for 2 first
    ∷ record { candidates = 3; votes = 21 ∷ 1 ∷ 231 ∷ []; winner = 2; blank = 0; spoiled = 0; table = entry 1 0 ∷ entry 2 0 ∷ entry 0 0 ∷ [] }
    -- a tie for last: 3, 2, 2 of 7; 3 leaves, not 2, and its votes make 2 the winner with 4 of 7
    ∷ record {
      candidates = 3;
      votes = 1 ∷ 1 ∷ 1 ∷ 23 ∷ 23 ∷ 32 ∷ 32 ∷ [];
      winner = 2;
      blank = 0;
      spoiled = 0;
      table = entry 3 0 ∷ entry 4 0 ∷ entry 2 1 ∷ [];
    }
    -- a tie at exactly half: 2 has 2 of 4 and does not win; 3 leaves, then of 2 and 2 candidate 2 leaves, and 1 has 2 of 2 in round three
    ∷ record {
      candidates = 3;
      votes = 2 ∷ 2 ∷ 1 ∷ 31 ∷ [];
      winner = 1;
      blank = 0;
      spoiled = 0;
      table = entry 2 0 ∷ entry 2 2 ∷ entry 1 1 ∷ [];
    }
    -- exhausted votes: 3, 2, 2 of 7; 3 leaves and its votes count no more, so 3 of 5 is more than half
    ∷ record {
      candidates = 3;
      votes = 1 ∷ 1 ∷ 1 ∷ 2 ∷ 2 ∷ 3 ∷ 3 ∷ [];
      winner = 1;
      blank = 0;
      spoiled = 0;
      table = entry 3 0 ∷ entry 2 0 ∷ entry 2 1 ∷ [];
    }
    -- who leads at first need not win: 4, 3, 2 of 9, then 4 and 5
    ∷ record {
      candidates = 3;
      votes = 1 ∷ 1 ∷ 1 ∷ 1 ∷ 23 ∷ 23 ∷ 23 ∷ 32 ∷ 32 ∷ [];
      winner = 2;
      blank = 0;
      spoiled = 0;
      table = entry 4 0 ∷ entry 5 0 ∷ entry 2 1 ∷ [];
    }
    -- three rounds: 3, 2, 0, 1 of 6; candidate 3 leaves with 0, then 4 with 1; 4312 passes over 3 to 1, who has 4 of 6
    ∷ record {
      candidates = 4;
      votes = 1 ∷ 2 ∷ 1 ∷ 2 ∷ 4312 ∷ 1 ∷ [];
      winner = 1;
      blank = 0;
      spoiled = 0;
      table = entry 4 0 ∷ entry 2 0 ∷ entry 0 1 ∷ entry 1 2 ∷ [];
    }
    -- the same votes in another order
    ∷ record {
      candidates = 4;
      votes = 4312 ∷ 2 ∷ 2 ∷ 1 ∷ 1 ∷ 1 ∷ [];
      winner = 1;
      blank = 0;
      spoiled = 0;
      table = entry 4 0 ∷ entry 2 0 ∷ entry 0 1 ∷ entry 1 2 ∷ [];
    }
    -- all blank; no vote at all: nobody wins and nobody leaves
    ∷ record { candidates = 2; votes = 0 ∷ 0 ∷ []; winner = 0; blank = 2; spoiled = 0; table = entry 0 0 ∷ entry 0 0 ∷ [] }
    ∷ record { candidates = 3; votes = []; winner = 0; blank = 0; spoiled = 0; table = entry 0 0 ∷ entry 0 0 ∷ entry 0 0 ∷ [] }
    -- all spoiled: a repeated digit, next to itself and not; a digit above 3, alone and last; a digit 0, last and inside
    ∷ record {
      candidates = 3;
      votes = 11 ∷ 1231 ∷ 4 ∷ 124 ∷ 10 ∷ 102 ∷ [];
      winner = 0;
      blank = 0;
      spoiled = 6;
      table = entry 0 0 ∷ entry 0 0 ∷ entry 0 0 ∷ [];
    }
    -- all kinds: 12 and 1 for candidate 1, 21 for 2; one blank; 22, 4 and 103 spoiled. 2 of 3 is more than half, 2 of 7 is not
    ∷ record {
      candidates = 3;
      votes = 22 ∷ 12 ∷ 0 ∷ 21 ∷ 4 ∷ 1 ∷ 103 ∷ [];
      winner = 1;
      blank = 1;
      spoiled = 3;
      table = entry 2 0 ∷ entry 1 0 ∷ entry 0 0 ∷ [];
    }
    -- one candidate, with votes and without
    ∷ record { candidates = 1; votes = 1 ∷ 0 ∷ 2 ∷ 11 ∷ 1 ∷ []; winner = 1; blank = 1; spoiled = 2; table = entry 2 0 ∷ [] }
    ∷ record { candidates = 1; votes = 0 ∷ 2 ∷ []; winner = 0; blank = 1; spoiled = 1; table = entry 0 0 ∷ [] }
    -- two candidates with one vote each: the second leaves, and a vote that names both counts on
    ∷ record { candidates = 2; votes = 21 ∷ 12 ∷ []; winner = 1; blank = 0; spoiled = 0; table = entry 2 0 ∷ entry 1 1 ∷ [] }
    -- nine candidates: a ranking of all, and the largest number of 4 bytes, which repeats 4
    ∷ record {
      candidates = 9;
      votes = 987654321 ∷ 4294967295 ∷ [];
      winner = 9;
      blank = 0;
      spoiled = 1;
      table = entry 0 0 ∷ entry 0 0 ∷ entry 0 0 ∷ entry 0 0 ∷ entry 0 0 ∷ entry 0 0 ∷ entry 0 0 ∷ entry 0 0 ∷ entry 1 0 ∷ [];
    }
    ∷ []

-- the entry's answer, and the lent table, which held other numbers
pub record Outcome : Type 0 where
  pub answer : Answer
  pub lent : List Candidate

pub computed : Row → Outcome
computed r =
    let before = replicate (length r.table) (entry 77 77) in
    record { answer = ran_off r.candidates r.votes (length before); lent = table_after r.candidates r.votes before }

pub expected : Row → Outcome
expected r = record { answer = done (r.winner ∷ r.blank ∷ r.spoiled ∷ []); lent = r.table }

pub samples_hold : map computed samples ≡ map expected samples
unfolding samples computed expected entry how_many equal differ below at_most ◌and◌ ◌or◌ choose rule tabulate digits decimal answer_of ranking ranks valid blank spoiled standing first_standing counts_for winner_among fewer fewest_among last_counts start support counting round_winner decided left_after next onward result entries table runoff_refusal winner blank_votes spoiled_votes ran_off table_after
samples_hold = refl

-- "Checks: 20, the number of candidates outside 1 to 9; then 18, the table not of that length.": the lent table stays as it was
pub record Refusal : Type 0 where
  pub candidates : ℕ
  pub long : ℕ
  pub number : ℕ

pub refusals : List Refusal
refusals =
    record { candidates = 0; long = 0; number = 20 }
    ∷ record { candidates = 10; long = 10; number = 20 }
    -- both faults: the first check's number
    ∷ record { candidates = 10; long = 9; number = 20 }
    ∷ record { candidates = 3; long = 2; number = 18 }
    ∷ record { candidates = 3; long = 4; number = 18 }
    ∷ record { candidates = 9; long = 0; number = 18 }
    ∷ []

pub refusing : Refusal → Outcome
refusing r =
    let before = replicate r.long (entry 77 77) in
    let votes : List ℕ = 1 ∷ 2 ∷ 1 ∷ [] in
    record { answer = ran_off r.candidates votes (length before); lent = table_after r.candidates votes before }

pub refusals_hold : map refusing refusals ≡ map (λ (r : Refusal). record { answer = refused r.number; lent = replicate r.long (entry 77 77) }) refusals
unfolding refusals refusing equal at_most ◌and◌ choose rule answer_of runoff_refusal ran_off table_after
refusals_hold = refl
