-- The six slots of a ballot or of a list entry, each from a place in it.
use Rattle.std.specs.Prelude.{ℕ}
use Rattle.protocol.specs.declared.Place.{Place}
use Rattle.protocol.specs.declared.Place.TheVariants.{InBallot, InEntry}

abbrev pub in_slot : Place → ℕ → Place
in_slot (InBallot id other) q = InBallot id q
in_slot (InEntry l i other) q = InEntry l i q
