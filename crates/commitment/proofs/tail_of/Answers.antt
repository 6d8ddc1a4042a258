-- `commitment::tail_of` meets its contract in either form.
use Rattle.commitment.specs.Behind.{behind_key}
use Rattle.commitment.proofs.tail_of.Goals as goal

pub returns-in-Unnumbered : goal.returns-in-Unnumbered
unfolding behind_key
returns-in-Unnumbered c = rw c.in-Unnumbered.is c.plain_tail.ensures

pub returns-in-Numbered : goal.returns-in-Numbered
unfolding behind_key
returns-in-Numbered c = rw c.in-Numbered.is c.placed_tail.ensures
