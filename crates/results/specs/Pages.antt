-- What the lines of a tally need: room for them, and few votes, so that every count is a number of 4 bytes.
use Rattle.std.specs.Prelude.{List, ◌≡◌, ℕ, suc, ◌+◌, ◌*◌, ◌≤◌, ◌<◌, length}
use Rattle.protocol.specs.Terms.{item, most_ballots}
use Rattle.protocol.specs.declared.Parameters.{Parameters}
use Rattle.protocol.specs.Results.{announced_votes}
use Rattle.results.specs.Ready.{VotesReady}
use Rattle.results.specs.Tallies.{TallyReady}

-- the line of an election's number: the word, at most ten digits and the line's end
abbrev pub election_most : ℕ
election_most = 20

-- a line is at most 22 bytes long: two numbers of at most ten digits, a space and the line's end
abbrev pub line_most : ℕ
line_most = 22

-- the first pairs of values and counts, and an output of so many bytes from a place on
pub record LinesReady (values counts : List ℕ) (pairs out_length at : ℕ) : Type 0 where
  pub values_long : pairs ≤ length values
  pub counts_long : pairs ≤ length counts
  pub counts_small : (i : ℕ) → i < pairs → item counts i < 4294967296
  pub room : at + line_most * pairs ≤ out_length

-- votes that are ready to be tallied, and an output of so many bytes from a place on
pub record LinesRoom (votes : List ℕ) (values_length counts_length out_length at : ℕ) : Type 0 where
  pub tally : TallyReady votes values_length counts_length
  pub few : length votes ≤ most_ballots
  pub room : at + line_most * length votes ≤ out_length

-- a record that announces its votes rising, outputs of one number a ballot, and an output of so many bytes from a place on
pub record AnnouncedRoom (p : Parameters) (r : List ℕ) (votes_length values_length counts_length out_length at : ℕ) : Type 0 where
  pub votes : VotesReady p r votes_length
  pub values_long : values_length ≡ p.ballots
  pub counts_long : counts_length ≡ p.ballots
  pub rises : (i : ℕ) → suc i < length (announced_votes r) → item (announced_votes r) i ≤ item (announced_votes r) (suc i)
  pub room : at + line_most * most_ballots ≤ out_length
