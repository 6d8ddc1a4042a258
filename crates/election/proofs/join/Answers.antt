-- `election::join` meets its contract: each copy goes on where the one before ended, and together they fill the buffer.
use Rattle.election.proofs.Writing.{joined}
use Rattle.election.proofs.join.Goals as goal

pub returns : goal.returns
returns c =
    joined c.copy-a.ensures c.copy-b.ensures c.copy.ensures
    c.requires
