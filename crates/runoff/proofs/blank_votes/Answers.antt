-- `runoff::blank_votes` meets its contract.
use mathlib.Core.Path.{◌≡◌, ◌∙◌}
use Prim.Native.Nat.{ℕ}
use lib.Dec.{eqb}
use borrow.Author.Rules.{rules}
use Rattle.std.specs.List.{count_by}
use Rattle.laws.specs.Tests.{equal}
use Rattle.runoff.specs.Ranking.{blank}
use Rattle.runoff.specs.Rounds.{blank_votes}
use Rattle.runoff.proofs.Tallying.{count_is}
use Rattle.runoff.proofs.blank_votes.Goals as goal

pub returns : goal.returns
unfolding blank_votes blank equal
returns c = let e : c.count.result ≡ count_by (λ (v : ℕ). eqb v 0) c.args.votes.now = search rules in e ∙ count_is _ _
