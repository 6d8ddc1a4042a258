-- `results::votes::read_votes` meets its contract: the votes are read one behind the other, from the first on.
use mathlib.Core.Path.{◌∙◌}
use native.Mathlib.Omega.{arith}
use Rattle.results.proofs.Announcing.{votes_read}
use Rattle.results.proofs.votes.read_votes.Goals as goal

pub at_vote-requires : goal.at_vote-requires
at_vote-requires c = (c.requires.few, omega arith)

pub fill_numbers-requires : goal.fill_numbers-requires
fill_numbers-requires c i h =
    let v = c.requires in
    omega (arith, h, v.reaches, v.long, c.at_vote.ensures.0)

pub returns : goal.returns
returns c =
    let at = c in
    let v = at.requires in
    c.fill_numbers.ensures ∙ votes_read _ v.is at.at_vote.ensures.0 v.long
