-- `schedule::page::put_date` meets its contract: year, month and day with dashes between them, one behind the other.
use native.Mathlib.Omega.{arith}
use Rattle.laws.specs.Bytes.{bytes, length_bytes}
use Rattle.laws.specs.Writing.{go_on}
use Rattle.schedule.specs.Page.{date_text}
use Rattle.schedule.proofs.Paging.{padded_length}
use Rattle.schedule.proofs.page.put_date.Goals as goal

pub put1-dash-requires : goal.put1-dash-requires
put1-dash-requires c =
    omega (arith, padded_length 4 c.args.t.year)

pub put_padded-month-requires : goal.put_padded-month-requires
put_padded-month-requires c =
    omega (arith, length_bytes 1 45, padded_length 4 c.args.t.year)

pub put1-second-requires : goal.put1-second-requires
put1-second-requires c =
    omega (arith, length_bytes 1 45, padded_length 4 c.args.t.year, padded_length 2 c.args.t.month)

pub put_padded-requires : goal.put_padded-requires
put_padded-requires c =
    omega (arith, length_bytes 1 45, padded_length 4 c.args.t.year, padded_length 2 c.args.t.month)

pub returns : goal.returns
unfolding date_text bytes
returns c =
    go_on (go_on (go_on c.put_padded-year.ensures c.put1-dash.ensures) (go_on c.put_padded-month.ensures c.put1-second.ensures))
    c.put_padded.ensures
