-- The code's table of offsets is the definition's, and each offset is below 64.
use borrow.Author.Rules.{rules}
use Prim.Native.Nat.{◌+◌, ◌*◌}
use Rattle.keccak.specs.Keccak.{rotation_offsets}
use Rattle.keccak.proofs.Numbers.{offsets_fit}
use Rattle.keccak.proofs.turned.Goals as goal

pub turn-requires : goal.turn-requires
unfolding rotation_offsets
turn-requires c = offsets_fit (5 * c.args.y + c.args.x)

pub returns : goal.returns
unfolding rotation_offsets
returns c = c.turn.ensures
