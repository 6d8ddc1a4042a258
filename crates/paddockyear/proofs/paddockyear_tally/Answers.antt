-- `paddockyear::paddockyear_tally` meets its contract, case by case.
use mathlib.Core.Path.{ap, ◌∙◌}
use Rattle.protocol.specs.Answers.{refused}
use Rattle.protocol.specs.Results.{tallied}
use Rattle.paddockyear.specs.Codes.{refused_one, done_one}
use Rattle.paddockyear.proofs.paddockyear_tally.Goals as goal

pub returns-in-Ok : goal.returns-in-Ok
unfolding tallied
returns-in-Ok c =
    let (number, pairs) = done_one _ _ _ _ c.in-Ok.ensures.answer in
    (number, (pairs, (c.tally.ensures.values, c.tally.ensures.counts)))

pub returns-in-Err : goal.returns-in-Err
unfolding tallied
returns-in-Err c =
    let (number, pairs) = refused_one _ _ _ _ (ap refused c.number.ensures.0 ∙ c.in-Err.ensures.answer) in
    (number, (pairs, (c.tally.ensures.values, c.tally.ensures.counts)))
