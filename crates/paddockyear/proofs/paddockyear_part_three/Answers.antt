-- `paddockyear::paddockyear_part_three` meets its contract: it answers the number of what the entry answers.
use Rattle.paddockyear.specs.Codes.{code_of_lem}
use Rattle.paddockyear.proofs.paddockyear_part_three.Goals as goal

pub returns : goal.returns
returns c =
    let wrote = rw c.parameters.ensures at c.part_three.ensures in
    (code_of_lem _ wrote.0 c.written_code.ensures, wrote.1)
