-- How long a page may be.
use Rattle.std.specs.Prelude.{ℕ, ◌+◌, ◌*◌}
use Rattle.protocol.specs.Terms.{most_ballots}

-- the first line, that of an election's number, and a line of at most 22 bytes for each ballot
abbrev pub page_most : ℕ
page_most = 9 + 20 + 22 * most_ballots
