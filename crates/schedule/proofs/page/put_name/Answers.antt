-- `schedule::page::put_name` meets its contract: the part that is copied is three characters long.
use Prim.Native.Nat.{◌*◌}
use Rattle.laws.specs.Writing.{go_same, part_is}
use Rattle.schedule.proofs.page.put_name.Goals as goal

pub returns : goal.returns
returns c =
    go_same c.copy.ensures (part_is c.args.names.now (3 * c.args.w) 3)
