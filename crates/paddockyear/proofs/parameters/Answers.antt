-- `paddockyear::parameters` meets its contract.
use mathlib.Core.Path.{ap}
use Rattle.protocol.specs.declared.Form.{Form}
use Rattle.protocol.specs.Terms.{parameters}
use Rattle.paddockyear.proofs.parameters.Goals as goal

pub returns : goal.returns
returns c = ap (λ (f : Form). parameters f c.args.modulus c.args.ballots c.args.compared) c.form.ensures
