-- The lines of a runoff's page, worked out by hand, against what the definitions give. One fact is about all rows.
use mathlib.Core.Path.{◌≡◌, refl}
use mathlib.Core.List.{List, [], ◌∷◌, ◌++◌, map}
use Prim.Native.Nat.{ℕ}
use Rattle.laws.specs.Tests.{equal, differ, below, at_most, ◌and◌, ◌or◌, choose}
use Rattle.laws.specs.Counting.{how_many}
use Rattle.laws.specs.Tables.{tabulate}
use Rattle.protocol.specs.Terms.{digits, decimal}
use Rattle.runoff.specs.Ranking.{ranking, ranks, valid, blank, spoiled, standing, first_standing, counts_for}
use Rattle.runoff.specs.Rounds.{winner_among, fewer, fewest_among, last_counts, start, support, counting, round_winner, decided, left_after, next, onward, result, winner, blank_votes, spoiled_votes}
use Rattle.runoff.specs.Page.{named, named_or, header_cell, count_cell, leaver_among, header_line, count_cells, round_line, winner_line, count_line, round_lines, runoff_lines}

-- an election and its page, line by line: what is printed stands over each line, with > for a tab
pub record PageRow : Type 0 where
  pub candidates : ℕ
  pub votes : List ℕ
  pub lines : List (List ℕ)

pub pages : List PageRow
pages =
    record {
      candidates = 2;
      votes = 1 ∷ 2 ∷ 1 ∷ 0 ∷ 11 ∷ [];
      lines =
          -- ROUND>#1>#2>LEAVES
          (82 ∷ 79 ∷ 85 ∷ 78 ∷ 68 ∷ 9 ∷ 35 ∷ 49 ∷ 9 ∷ 35 ∷ 50 ∷ 9 ∷ 76 ∷ 69 ∷ 65 ∷ 86 ∷ 69 ∷ 83 ∷ 10 ∷ [])
          -- 1>2>1>-
          ∷ (49 ∷ 9 ∷ 50 ∷ 9 ∷ 49 ∷ 9 ∷ 45 ∷ 10 ∷ [])
          -- WINNER>#1
          ∷ (87 ∷ 73 ∷ 78 ∷ 78 ∷ 69 ∷ 82 ∷ 9 ∷ 35 ∷ 49 ∷ 10 ∷ [])
          -- BLANK>1
          ∷ (66 ∷ 76 ∷ 65 ∷ 78 ∷ 75 ∷ 9 ∷ 49 ∷ 10 ∷ [])
          -- SPOILED>1
          ∷ (83 ∷ 80 ∷ 79 ∷ 73 ∷ 76 ∷ 69 ∷ 68 ∷ 9 ∷ 49 ∷ 10 ∷ [])
          ∷ [];
    }
    ∷ record {
      candidates = 3;
      votes = 1 ∷ 1 ∷ 1 ∷ 23 ∷ 23 ∷ 32 ∷ 32 ∷ [];
      lines =
          -- ROUND>#1>#2>#3>LEAVES
          (82 ∷ 79 ∷ 85 ∷ 78 ∷ 68 ∷ 9 ∷ 35 ∷ 49 ∷ 9 ∷ 35 ∷ 50 ∷ 9 ∷ 35 ∷ 51 ∷ 9 ∷ 76 ∷ 69 ∷ 65 ∷ 86 ∷ 69 ∷ 83 ∷ 10 ∷ [])
          -- 1>3>2>2>#3
          ∷ (49 ∷ 9 ∷ 51 ∷ 9 ∷ 50 ∷ 9 ∷ 50 ∷ 9 ∷ 35 ∷ 51 ∷ 10 ∷ [])
          -- 2>3>4>->-
          ∷ (50 ∷ 9 ∷ 51 ∷ 9 ∷ 52 ∷ 9 ∷ 45 ∷ 9 ∷ 45 ∷ 10 ∷ [])
          -- WINNER>#2
          ∷ (87 ∷ 73 ∷ 78 ∷ 78 ∷ 69 ∷ 82 ∷ 9 ∷ 35 ∷ 50 ∷ 10 ∷ [])
          -- BLANK>0
          ∷ (66 ∷ 76 ∷ 65 ∷ 78 ∷ 75 ∷ 9 ∷ 48 ∷ 10 ∷ [])
          -- SPOILED>0
          ∷ (83 ∷ 80 ∷ 79 ∷ 73 ∷ 76 ∷ 69 ∷ 68 ∷ 9 ∷ 48 ∷ 10 ∷ [])
          ∷ [];
    }
    ∷ record {
      candidates = 1;
      votes = 0 ∷ [];
      lines =
          -- ROUND>#1>LEAVES
          (82 ∷ 79 ∷ 85 ∷ 78 ∷ 68 ∷ 9 ∷ 35 ∷ 49 ∷ 9 ∷ 76 ∷ 69 ∷ 65 ∷ 86 ∷ 69 ∷ 83 ∷ 10 ∷ [])
          -- 1>0>-
          ∷ (49 ∷ 9 ∷ 48 ∷ 9 ∷ 45 ∷ 10 ∷ [])
          -- WINNER>NONE
          ∷ (87 ∷ 73 ∷ 78 ∷ 78 ∷ 69 ∷ 82 ∷ 9 ∷ 78 ∷ 79 ∷ 78 ∷ 69 ∷ 10 ∷ [])
          -- BLANK>1
          ∷ (66 ∷ 76 ∷ 65 ∷ 78 ∷ 75 ∷ 9 ∷ 49 ∷ 10 ∷ [])
          -- SPOILED>0
          ∷ (83 ∷ 80 ∷ 79 ∷ 73 ∷ 76 ∷ 69 ∷ 68 ∷ 9 ∷ 48 ∷ 10 ∷ [])
          ∷ [];
    }
    ∷ []

pub joined : List (List ℕ) → List ℕ
joined [] = []
joined (l ∷ ls) = l ++ joined ls

pub pages_hold : map (λ (row : PageRow). runoff_lines row.candidates row.votes) pages ≡ map (λ (row : PageRow). joined row.lines) pages
unfolding pages joined how_many equal differ below at_most ◌and◌ ◌or◌ choose tabulate digits decimal ranking ranks valid blank spoiled standing first_standing counts_for winner_among fewer fewest_among last_counts start support counting round_winner decided left_after next onward result winner blank_votes spoiled_votes named named_or header_cell count_cell leaver_among header_line count_cells round_line winner_line count_line round_lines runoff_lines
pages_hold = refl
