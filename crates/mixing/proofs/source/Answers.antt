-- `mixing::source` meets its contract.
use Rattle.mixing.proofs.Following.{source_is}
use Rattle.mixing.proofs.source.Goals as goal

pub returns : goal.returns
returns c = (source_is _ _ _ c.from-third.ensures.0 c.from-second.ensures.0 c.from.ensures.0, c.from.ensures.1)
