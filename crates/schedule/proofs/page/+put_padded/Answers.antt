-- `schedule::page::put_padded` meets its contract: no digit, or the last behind those of x / 10.
use Prim.Native.Nat.{◌-◌, ◌/◌}
use native.Mathlib.Omega.{arith}
use Rattle.laws.specs.Writing.{start, go_on, go_same}
use Rattle.schedule.proofs.Paging.{padded_none, padded_more, padded_length}
use Rattle.schedule.proofs.page.+put_padded.Goals as goal

pub returns-then-digits-eq0 : goal.returns-then-digits-eq0
returns-then-digits-eq0 t c = go_same (start _ _ (omega arith)) (padded_none _ _ (omega arith))

pub put1-requires : goal.put1-requires
put1-requires t c = omega (arith, padded_length (c.args.digits - 1) (c.args.x / 10))

pub returns : goal.returns
returns t c = go_same (go_on c.put_padded-next.ensures c.put1.ensures) (padded_more _ _ (omega arith))
