-- `commitment::in_slot` meets its contract, for each of the two kinds of place.
use mathlib.Core.Path.{sym, ap}
use Rattle.protocol.specs.declared.Place.{Place}
use Rattle.commitment.specs.Slots.{in_slot}
use Rattle.commitment.proofs.in_slot.Goals as goal

pub returns-in-InBallot : goal.returns-in-InBallot
returns-in-InBallot c = sym (ap (λ (place : Place). in_slot place c.args.q) c.in-InBallot.is)

pub returns-in-InEntry : goal.returns-in-InEntry
returns-in-InEntry c = sym (ap (λ (place : Place). in_slot place c.args.q) c.in-InEntry.is)
