-- `mixing::ballot_share` meets its contract.
use mathlib.Core.Path.{refl, ◌∙◌}
use Rattle.protocol.specs.Inputs.{inputs_of}
use Rattle.protocol.specs.Servers.{ballot_row}
use Rattle.mixing.proofs.ballot_share.Goals as goal

pub returns : goal.returns
unfolding ballot_row inputs_of
returns c = (c.share.ensures.0 ∙ rw (c.ballot_numbers-numbers.ensures.0, ← c.s.view_is) refl, rw (← c.s.view_is) c.share.ensures.1)
