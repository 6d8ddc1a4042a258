-- How long a page may be, and what its writers are told.
use Rattle.std.specs.Prelude.{List, ℕ, ◌+◌, ◌*◌, ◌≤◌}
use Rattle.results.specs.Ready.{VotesReady}
use Rattle.runoff.specs.Told.{line_most, most_lines}
use Rattle.runoff.specs.Rounds.{most_candidates}
use Rattle.protocol.specs.declared.Parameters.{Parameters}

-- the first line, that of an election's number, and the lines of the runoff
abbrev pub page_most : ℕ
page_most = 9 + 20 + most_lines * line_most

-- a record that stands, with room for its votes and for a page
pub record VotesRoom (p : Parameters) (r : List ℕ) (candidates votes_long out_long : ℕ) : Type 0 where
  pub votes : VotesReady p r votes_long
  pub few : candidates ≤ most_candidates
  pub room : page_most ≤ out_long
