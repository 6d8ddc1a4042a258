-- What inner functions are told and tell.
use Rattle.std.specs.Prelude.{List, Option, None, Some, ℕ, ◌+◌, ◌*◌, ◌≤◌, ◌<◌}
use Rattle.runoff.specs.Rounds.{most_candidates}
use Rattle.runoff.specs.Page.{named}
use Rattle.protocol.specs.Terms.{item}
use Rattle.runoff.specs.declared.Standings.{Standings}

-- ---- the page

-- a cell is at most 12 bytes long: a tab, '#' and ten digits. A line is at most 144: ten digits, nine cells, one more, and its end
abbrev pub cell_most : ℕ
cell_most = 12

abbrev pub line_most : ℕ
line_most = 144

-- the lines of nine rounds and of the winner; with the header and what is counted apart
abbrev pub most_round_lines : ℕ
most_round_lines = 10

abbrev pub most_lines : ℕ
most_lines = 13

-- a candidate, or a word for none
abbrev pub named_in : List ℕ → Option ℕ → List ℕ
named_in word None = word
named_in word (Some k) = named k

-- the counts of a round are numbers of 4 bytes
pub record RoundReady (candidates : ℕ) (s : Standings) : Type 0 where
  pub few : candidates ≤ most_candidates
  pub small : (i : ℕ) → i < most_candidates → item s.counts i < 4294967296

-- few candidates, votes whose number is one of 4 bytes, and room for so many lines in an output of so many bytes from a place on
pub record LinesReady (candidates votes_long lines out_long at : ℕ) : Type 0 where
  pub few : candidates ≤ most_candidates
  pub small : votes_long < 4294967296
  pub room : at + line_most * lines ≤ out_long
