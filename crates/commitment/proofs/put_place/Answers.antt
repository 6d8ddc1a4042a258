-- `commitment::put_place` meets its contract, for each of the two kinds of place.
use mathlib.Core.Path.{sym, ap, ◌∙◌}
use Rattle.laws.specs.Writing.{go_same}
use Rattle.protocol.specs.Terms.{place_bytes}
use Rattle.commitment.proofs.Hashed.{entry_told}
use Rattle.commitment.proofs.put_place.Goals as goal

pub returns-in-InBallot : goal.returns-in-InBallot
unfolding place_bytes
returns-in-InBallot c = go_same c.put_told.ensures (sym (ap place_bytes c.in-InBallot.is))

pub returns-in-InEntry : goal.returns-in-InEntry
unfolding place_bytes
returns-in-InEntry c =
    go_same c.put_told-in-InEntry.ensures
    (entry_told _ _ _ ∙ sym (ap place_bytes c.in-InEntry.is))
