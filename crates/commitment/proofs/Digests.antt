-- What others may know of a commitment besides its length: it is bytes.
use mathlib.Core.List.{List}
use Prim.Native.Nat.{ℕ}
use Rattle.laws.specs.Bytes.{Below}
use Rattle.sha3.proofs.Digest.{sha3_256_below}
use Rattle.protocol.specs.declared.Parameters.{Parameters}
use Rattle.protocol.specs.declared.Place.{Place}
use Rattle.protocol.specs.Terms.{commitment}

pub commitment_below : (p : Parameters) (place : Place) (o : List ℕ) → Below 256 (commitment p place o)
unfolding commitment
commitment_below p place o = sha3_256_below _
