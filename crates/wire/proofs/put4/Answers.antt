-- `wire::put4` meets its contract: two halves, one behind the other.
use Rattle.wire.proofs.Halves.{put_on, room_on}
use Rattle.wire.proofs.put4.Goals as goal

pub put2-requires : goal.put2-requires
put2-requires c = room_on 2 2 _ c.put2-next.ensures c.requires

pub returns : goal.returns
returns c = put_on 2 2 _ c.put2-next.ensures c.put2.ensures
