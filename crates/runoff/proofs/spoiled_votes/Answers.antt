-- `runoff::spoiled_votes` meets its contract.
use mathlib.Core.Path.{◌≡◌, ◌∙◌}
use borrow.Author.Rules.{rules}
use Rattle.std.specs.List.{count_by}
use Rattle.runoff.specs.Ranking.{spoiled}
use Rattle.runoff.specs.Rounds.{spoiled_votes}
use Rattle.runoff.proofs.Tallying.{count_is}
use Rattle.runoff.proofs.spoiled_votes.Goals as goal

pub returns : goal.returns
unfolding spoiled_votes
returns c = let e : c.count.result ≡ count_by (spoiled c.args.candidates) c.args.votes.now = search rules in e ∙ count_is _ _
