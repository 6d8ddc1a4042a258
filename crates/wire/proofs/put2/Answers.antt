-- `wire::put2` meets its contract: two bytes, one behind the other.
use Rattle.wire.proofs.Halves.{put_on, room_on}
use Rattle.wire.proofs.put2.Goals as goal

pub put1-requires : goal.put1-requires
put1-requires c = room_on 1 1 _ c.put1-next.ensures c.requires

pub returns : goal.returns
returns c = put_on 1 1 _ c.put1-next.ensures c.put1.ensures
