-- `schedule::page::put_moment` meets its contract: the day's name, its date and the hour, one behind the other.
use mathlib.Core.Path.{ap}
use native.Mathlib.Omega.{arith}
use Rattle.laws.specs.Bytes.{bytes, length_bytes}
use Rattle.laws.specs.Writing.{go_on, go_same}
use Rattle.schedule.specs.Working.{weekday}
use Rattle.schedule.specs.Page.{date_text, moment_text}
use Rattle.schedule.proofs.Paging.{padded_length, weekday_below, weekday_length, date_length}
use Rattle.schedule.proofs.page.put_moment.Goals as goal

pub put1-space-requires : goal.put1-space-requires
put1-space-requires c =
    omega (arith, weekday_length (weekday c.args.day) (weekday_below c.args.day))

pub put_date-date-requires : goal.put_date-date-requires
put_date-date-requires c =
    omega (arith, length_bytes 1 32, weekday_length (weekday c.args.day) (weekday_below c.args.day))

pub put1-second-requires : goal.put1-second-requires
put1-second-requires c =
    omega (arith, length_bytes 1 32, weekday_length (weekday c.args.day) (weekday_below c.args.day), date_length c.date_of.result)

pub put_padded-hours-requires : goal.put_padded-hours-requires
put_padded-hours-requires c =
    omega (arith, length_bytes 1 32, weekday_length (weekday c.args.day) (weekday_below c.args.day), date_length c.date_of.result)

pub copy-requires : goal.copy-requires
copy-requires c =
    omega (
      arith,
      length_bytes 1 32,
      weekday_length (weekday c.args.day) (weekday_below c.args.day),
      date_length c.date_of.result,
      padded_length 2 c.args.hour,
    )

pub returns : goal.returns
unfolding moment_text bytes
returns c =
    let dated = go_same c.put_date-date.ensures (ap date_text c.date_of.ensures) in
    go_on (go_on c.put_weekday-name.ensures c.put1-space.ensures)
    (go_on (go_on dated c.put1-second.ensures) (go_on c.put_padded-hours.ensures c.copy.ensures))
