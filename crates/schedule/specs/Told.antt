-- What inner functions are told and tell: the days of the windows, by weekdays alone where no holiday is ahead, and with one holiday more.
use Rattle.std.specs.Prelude.{List, ℕ, ◌+◌, ◌-◌, ◌*◌, ◌≤◌, ◌<◌, Result, Ok, Err, length}
use Rattle.laws.specs.Tests.{equal, below, every, pick}
use Rattle.protocol.specs.declared.Rule.{Rule}
use Rattle.protocol.specs.declared.Rule.TheVariants as broken
use Rattle.schedule.specs.Dates.{day_number, exists}
use Rattle.schedule.specs.Working.{weekday, working}
use Rattle.schedule.specs.Windows.{days_after, in_turn}
use Rattle.schedule.specs.declared.Date.{Date}
use Rattle.schedule.specs.declared.Days.{Days}
use Rattle.schedule.specs.declared.Window.{Window}
use Rattle.schedule.specs.declared.Windows.{Windows}

-- the first of Monday to Friday from a day on
unfoldable pub weekday_from : ℕ → ℕ
weekday_from d = pick (below (weekday d) 5) d (d + (7 - weekday d))

-- the days, where there is no holiday after the second dice's, after the first dice's, and after the next working day
unfoldable pub from_second : ℕ → ℕ → ℕ → Days
from_second next first second = record { next = next; first = first; second = second; last = second + 14 }

unfoldable pub from_first : ℕ → ℕ → Days
from_first next first = from_second next first (weekday_from (first + 1))

unfoldable pub from_next : ℕ → Days
from_next next = from_first next (weekday_from (next + 1))

-- the days with a holiday h more, which is after all that there were
unfoldable pub moved : Days → ℕ → Days
moved s h =
    let after = weekday_from (h + 1) in
    pick (equal h s.next) (from_next after)
    (pick (equal h s.first) (from_first s.next after)
    (pick (equal h s.second) (from_second s.next s.first after)
    (pick (equal h s.last) (record { next = s.next; first = s.first; second = s.second; last = after }) s)))

-- the days of the windows of an election on day d; or 22
unfoldable pub planned_on : ℕ → List ℕ → Result Days Rule
planned_on d holidays = pick (every (in_turn holidays) (length holidays)) (Ok (days_after (working holidays) d)) (Err broken.Day)

unfoldable pub plan : Date → List ℕ → Result Days Rule
plan election holidays = pick (exists election) (planned_on (day_number election) holidays) (Err broken.Day)

-- ---- the page

-- a day with its hour; a line of a word, two of these, a tab and the line's end; and four lines
abbrev pub moment_most : ℕ
moment_most = 20

abbrev pub line_most : ℕ
line_most = 12 + moment_most + 1 + moment_most + 1

abbrev pub page_most : ℕ
page_most = 4 * line_most

-- a window that ends in a minute of the days 0 to 73,099, or with the last of them
pub record SmallWindow (w : Window) : Type 0 where
  pub low : 1 ≤ w.end
  pub high : w.end ≤ 105264000
  pub order : w.start ≤ w.end

pub record SmallWindows (w : Windows) : Type 0 where
  pub polling : SmallWindow w.polling
  pub first : SmallWindow w.first
  pub second : SmallWindow w.second
  pub objections : SmallWindow w.objections

-- name w of names of three characters each, and room for it
pub record NameReady (w at names_long out_long : ℕ) : Type 0 where
  pub small : w < 7
  pub named : 3 * w + 3 ≤ names_long
  pub room : at + 3 ≤ out_long

-- a minute that a window may end with, and room for it
pub record EndReady (minute at out_long : ℕ) : Type 0 where
  pub low : 1 ≤ minute
  pub high : minute ≤ 105264000
  pub room : at + moment_most ≤ out_long

-- a window that is small, and room for its line
pub record LineReady (word : List ℕ) (w : Window) (at out_long : ℕ) : Type 0 where
  pub small : SmallWindow w
  pub short : length word ≤ 12
  pub room : at + line_most ≤ out_long
