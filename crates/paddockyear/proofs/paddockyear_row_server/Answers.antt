-- `paddockyear::paddockyear_row_server` meets its contract: it answers the number of what the entry answers.
use Rattle.paddockyear.specs.Codes.{code_of_lem}
use Rattle.paddockyear.proofs.paddockyear_row_server.Goals as goal

pub returns : goal.returns
returns c = (code_of_lem _ c.row_server.ensures.0 c.written_code.ensures, c.row_server.ensures.1)
