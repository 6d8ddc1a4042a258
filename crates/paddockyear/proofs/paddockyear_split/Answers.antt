-- `paddockyear::paddockyear_split` meets its contract: it answers the number of what the entry answers.
use Rattle.paddockyear.specs.Codes.{code_of_lem}
use Rattle.paddockyear.proofs.paddockyear_split.Goals as goal

pub returns : goal.returns
returns c = (code_of_lem _ c.split.ensures.0 c.written_code.ensures, c.split.ensures.1)
