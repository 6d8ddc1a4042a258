-- `modular::less_two` meets its contract: one after the other.
use Rattle.modular.proofs.less_two.Goals as goal

pub returns : goal.returns
returns c = (rw c.minus.ensures.0 at c.minus-2.ensures.0, c.minus-2.ensures.1)
