-- `mixing::keys_at` meets its contract: the keys of an entry end before those of all entries do.
use mathlib.Core.Path.{refl}
use Rattle.mixing.proofs.Following.{keys_end}
use Rattle.mixing.proofs.keys_at.Goals as goal

pub returns : goal.returns
returns c = (refl, keys_end c.requires.0 c.args.i c.requires.1)
