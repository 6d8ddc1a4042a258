-- `paddockyear::paddockyear_third_row_offsets` meets its contract: it answers the number of what the entry answers.
use Rattle.paddockyear.specs.Codes.{code_of_lem}
use Rattle.paddockyear.proofs.paddockyear_third_row_offsets.Goals as goal

pub returns : goal.returns
returns c = (code_of_lem _ c.third_row_offsets.ensures.0 c.written_code.ensures, c.third_row_offsets.ensures.1)
