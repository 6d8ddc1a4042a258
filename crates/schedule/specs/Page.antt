-- The page of the calendar: a line for each window, or for the refusal, in characters. Document 02 leaves the form open.
use Rattle.std.specs.Prelude.{List, [], ◌∷◌, ◌++◌, ℕ, zero, suc, ◌+◌, ◌-◌, ◌*◌, ◌/◌, ◌%◌, take, drop}
use Rattle.laws.specs.Tests.{choose}
use Rattle.protocol.specs.Terms.{decimal}
use Rattle.protocol.specs.Results.{refused_word}
use Rattle.schedule.specs.Dates.{date_of}
use Rattle.schedule.specs.Working.{weekday}
use Rattle.schedule.specs.Windows.{windows, schedule_refusal}
use Rattle.schedule.specs.declared.Date.{Date}
use Rattle.schedule.specs.declared.Window.{Window}
use Rattle.schedule.specs.declared.Windows.{Windows}

-- ---- words: "POLLING", "FIRST DICE", "SECOND DICE", "OBJECTIONS", each with a tab behind it

abbrev pub polling_word : List ℕ
polling_word = 80 ∷ 79 ∷ 76 ∷ 76 ∷ 73 ∷ 78 ∷ 71 ∷ 9 ∷ []

abbrev pub first_word : List ℕ
first_word = 70 ∷ 73 ∷ 82 ∷ 83 ∷ 84 ∷ 32 ∷ 68 ∷ 73 ∷ 67 ∷ 69 ∷ 9 ∷ []

abbrev pub second_word : List ℕ
second_word = 83 ∷ 69 ∷ 67 ∷ 79 ∷ 78 ∷ 68 ∷ 32 ∷ 68 ∷ 73 ∷ 67 ∷ 69 ∷ 9 ∷ []

abbrev pub objections_word : List ℕ
objections_word = 79 ∷ 66 ∷ 74 ∷ 69 ∷ 67 ∷ 84 ∷ 73 ∷ 79 ∷ 78 ∷ 83 ∷ 9 ∷ []

-- "Mon", "Tue", "Wed", "Thu", "Fri", "Sat", "Sun", one behind the other
abbrev pub weekdays : List ℕ
weekdays =
    77 ∷ 111 ∷ 110 ∷ 84 ∷ 117 ∷ 101 ∷ 87 ∷ 101 ∷ 100 ∷ 84 ∷ 104 ∷ 117
    ∷ 70 ∷ 114 ∷ 105 ∷ 83 ∷ 97 ∷ 116 ∷ 83 ∷ 117 ∷ 110 ∷ []

-- ---- days and hours

-- a number in k decimal digits
unfoldable pub padded : ℕ → ℕ → List ℕ
padded zero x = []
padded (suc k) x = padded k (x / 10) ++ ((48 + x % 10) ∷ [])

unfoldable pub weekday_text : ℕ → List ℕ
weekday_text w = take 3 (drop (3 * w) weekdays)

-- a date as in 2026-03-31
unfoldable pub date_text : Date → List ℕ
date_text t = ((padded 4 t.year ++ (45 ∷ [])) ++ (padded 2 t.month ++ (45 ∷ []))) ++ padded 2 t.day

-- a day with its hour, as in Tue 2026-03-31 08:00
unfoldable pub moment_text : ℕ → ℕ → List ℕ
moment_text d hour =
    (weekday_text (weekday d) ++ (32 ∷ [])) ++ ((date_text (date_of d) ++ (32 ∷ [])) ++ (padded 2 hour ++ (58 ∷ 48 ∷ 48 ∷ [])))

-- a minute that starts an hour, by its own day
unfoldable pub start_text : ℕ → List ℕ
start_text m = moment_text (m / 1440) (m % 1440 / 60)

-- a minute that ends an hour, by the day of the minute before it: midnight is 24:00
unfoldable pub end_text : ℕ → List ℕ
end_text m = moment_text ((m - 1) / 1440) (((m - 1) % 1440 + 1) / 60)

-- ---- lines

unfoldable pub window_line : List ℕ → Window → List ℕ
window_line word w = (word ++ (start_text w.start ++ (9 ∷ []))) ++ (end_text w.end ++ (10 ∷ []))

unfoldable pub window_lines : Windows → List ℕ
window_lines w =
    (window_line polling_word w.polling ++ window_line first_word w.first)
    ++ (window_line second_word w.second ++ window_line objections_word w.objections)

unfoldable pub schedule_page : Date → List ℕ → List ℕ
schedule_page election holidays =
    let k = schedule_refusal election holidays in
    choose k (window_lines (windows election holidays)) (refused_word ++ (decimal k ++ (10 ∷ [])))
