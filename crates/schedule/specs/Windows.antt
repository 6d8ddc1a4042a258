-- Document 02, item 7: the four windows of an election, and what is answered.
use Rattle.std.specs.Prelude.{Bool, List, [], ◌∷◌, ℕ, ◌+◌, ◌-◌, ◌*◌, Option, None, Some, Result, length}
use Rattle.laws.specs.Tests.{equal, below, at_most, ◌and◌, ◌or◌, every, pick}
use Rattle.laws.specs.Faults.{rule, kept}
use Rattle.protocol.specs.Terms.{item}
use Rattle.protocol.specs.declared.Rule.{Rule}
use Rattle.protocol.specs.Answers.{Answer, answer_of, answer_in}
use Rattle.schedule.specs.Dates.{exists, date_in, day_number}
use Rattle.schedule.specs.Working.{holiday, working, kth_after}
use Rattle.schedule.specs.declared.Date.{Date}
use Rattle.schedule.specs.declared.Days.{Days}
use Rattle.schedule.specs.declared.Window.{Window}
use Rattle.schedule.specs.declared.Windows.{Windows}
use Rattle.schedule.specs.declared.Phase.{Phase}
use Rattle.schedule.specs.declared.Phase.TheVariants as phase

-- ---- the days, whichever days are working days

module _ (works : ℕ → Bool) where
  -- "the fourteenth day after it, or .. the next working day if that one is none"
  unfoldable pub last_day : ℕ → ℕ
  last_day second = pick (works (second + 14)) (second + 14) (kth_after works 1 (second + 14))

  -- of an election on day d: the next working day after it, "the second working day after it", "one working day later", and the day of
  -- the objections' end
  unfoldable pub days_after : ℕ → Days
  days_after d =
      let first = kth_after works 2 d in
      let second = kth_after works 1 first in
      record { next = kth_after works 1 d; first = first; second = second; last = last_day second }

-- ---- the windows

-- "in minutes from 2000-01-01 00:00"
unfoldable pub minute_of : ℕ → ℕ → ℕ
minute_of day hour = day * 1440 + hour * 60

unfoldable pub window : ℕ → ℕ → ℕ → ℕ → Window
window day hour last_day last_hour = record { start = minute_of day hour; end = minute_of last_day last_hour }

-- "Polling is 08:00 to 20:00 on that day. First dice are 10:00 to 12:00 on the second working day after it, second dice the same hours one
-- working day later. Objections run from 12:00 of the second dice's day to 24:00 of the fourteenth day after it, or .."
unfoldable pub windows_on : ℕ → Days → Windows
windows_on d s = record {
  polling = window d 8 d 20;
  first = window s.first 10 s.first 12;
  second = window s.second 10 s.second 12;
  objections = window s.second 12 s.last 24;
}

unfoldable pub windows : Date → List ℕ → Windows
windows election holidays = let d = day_number election in windows_on d (days_after (working holidays) d)

-- "each without its end"
unfoldable pub inside : Window → ℕ → Bool
inside w m = at_most w.start m and below m w.end

-- "A minute is answered by its window or by none.": 1 polling, 2 first dice, 3 second dice, 4 objections, 0 none
unfoldable pub window_of : Windows → ℕ → ℕ
window_of w m =
    pick (inside w.polling m) 1
    (pick (inside w.first m) 2 (pick (inside w.second m) 3 (pick (inside w.objections m) 4 0)))

-- ---- what is refused, and what is answered

-- a holiday is a day that exists, and after the one before it
unfoldable pub in_turn : List ℕ → ℕ → Bool
in_turn holidays i = exists (date_in (item holidays i)) and (equal i 0 or below (holiday holidays (i - 1)) (holiday holidays i))

-- "Checks: 22, a day that does not exist in those years, or a holiday not after the one before it."
unfoldable pub schedule_refusal : Date → List ℕ → ℕ
schedule_refusal election holidays = rule 22 (exists election and every (in_turn holidays) (length holidays)) kept

-- the windows as eight numbers
unfoldable pub numbers : Windows → List ℕ
numbers w =
    w.polling.start ∷ w.polling.end ∷ w.first.start ∷ w.first.end
    ∷ w.second.start ∷ w.second.end ∷ w.objections.start ∷ w.objections.end ∷ []

unfoldable pub scheduled : Date → List ℕ → Answer
scheduled election holidays = answer_of (schedule_refusal election holidays) (numbers (windows election holidays))

unfoldable pub window_at : Date → List ℕ → ℕ → Answer
window_at election holidays m = answer_of (schedule_refusal election holidays) (window_of (windows election holidays) m ∷ [])

-- this paper's number and values for each of the enums' cases
abbrev pub schedule_answer : Result Windows Rule → Answer
schedule_answer = answer_in numbers

abbrev pub phase_number : Phase → ℕ
phase_number phase.Polling = 1
phase_number phase.FirstDice = 2
phase_number phase.SecondDice = 3
phase_number phase.Objections = 4

abbrev pub phase_in : Option Phase → ℕ
phase_in None = 0
phase_in (Some phase) = phase_number phase

abbrev pub minute_answer : Result (Option Phase) Rule → Answer
minute_answer = answer_in (λ window. phase_in window ∷ [])
