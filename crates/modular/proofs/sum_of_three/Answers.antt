-- `modular::sum_of_three` meets its contract: two, then the third.
use Rattle.modular.proofs.sum_of_three.Goals as goal

pub returns : goal.returns
returns c = (rw c.plus.ensures.0 at c.plus-2.ensures.0, c.plus-2.ensures.1)
