-- `commands::put_end` meets its contract: one byte.
use Rattle.laws.specs.Bytes.{bytes}
use Rattle.commands.proofs.put_end.Goals as goal

pub returns : goal.returns
unfolding bytes
returns c = c.put1.ensures
