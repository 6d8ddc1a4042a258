-- `paddockyear::paddockyear_runoff` meets its contract: the numbers of what the runoff answers.
use Rattle.paddockyear.proofs.Answers.{told}
use Rattle.paddockyear.proofs.paddockyear_runoff.Goals as goal

pub returns : goal.returns
returns c =
    let a = c.args in
    told a.candidates a.votes.now _ _ _ (a.winner.now, (a.blank.now, a.spoiled.now)) (c.runoff_code.new.winner, (c.runoff_code.new.blank, c.runoff_code.new.spoiled))
    c.run_off-counted.ensures.answer c.runoff_code.ensures c.run_off-counted.ensures.table
