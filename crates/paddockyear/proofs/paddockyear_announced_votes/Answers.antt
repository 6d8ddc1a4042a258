-- `paddockyear::paddockyear_announced_votes` meets its contract: it answers the number of what the entry answers.
use Rattle.paddockyear.specs.Codes.{code_of_lem}
use Rattle.paddockyear.proofs.paddockyear_announced_votes.Goals as goal

pub returns : goal.returns
returns c = (code_of_lem _ c.announced_votes.ensures.answer c.written_code.ensures, c.announced_votes.ensures.output)
