-- Pages worked out by hand, against what the definition gives.
use mathlib.Core.Path.{◌≡◌, refl, sym, ◌∙◌}
use mathlib.Core.Bool.{true}
use mathlib.Core.List.{List, [], ◌∷◌}
use Prim.Native.Nat.{ℕ}
use Rattle.laws.specs.Tests.{equal, differ, below, at_most, ◌and◌, ◌or◌, every, same, choose, and_iff, equal_iff}
use Rattle.laws.specs.Faults.{rule}
use Rattle.protocol.specs.Terms.{digits, decimal}
use Rattle.schedule.specs.Dates.{leap, months, days_of_month, days_of_months, days_of_year, days_of_years, dated, exists, day_number, date_in, least, year_of, month_of, date_of}
use Rattle.schedule.specs.Working.{weekday, holiday, working_but, working}
use Rattle.schedule.specs.Windows.{days_after, minute_of, window, windows_on, windows, in_turn, schedule_refusal, numbers}
use Rattle.schedule.specs.Page.{padded, weekday_text, date_text, moment_text, start_text, end_text, window_line, window_lines, schedule_page}
use Rattle.schedule.proofs.Planning.{plan_found}
use Rattle.schedule.proofs.Samples.{Row, days, is_next, planned, plan_by, fits}

-- the page of a row that fits is that of its days
page_is : (r : Row) → fits r ≡ true → schedule_page (date_in r.election) r.holidays ≡ window_lines (windows_on r.day r.days)
unfolding fits schedule_page windows choose
page_is r e =
    let (a, b) = (and_iff _ _).0 e in
    let (kept, day) = (and_iff _ _).0 a in
    let found : r.days ≡ days_after (working r.holidays) r.day = plan_found _ _ _ (plan_by _ _ _ ((and_iff _ _).0 b).0) in
    rw ((equal_iff _ _).0 kept, (equal_iff _ _).0 day, sym found)

-- only a holiday moves the objections' end

pub moved : Row
unfolding days
moved = record {
  election = 20260331;
  holidays = 20260417 ∷ 20260420 ∷ [];
  day = 9586;
  days = days 9587 9588 9589 9607;
  numbers = 13804320 ∷ 13805040 ∷ 13807320 ∷ 13807440 ∷ 13808760 ∷ 13808880 ∷ 13808880 ∷ 13835520 ∷ [];
}

-- POLLING   Tue 2026-03-31 08:00   Tue 2026-03-31 20:00
-- FIRST DICE   Thu 2026-04-02 10:00   Thu 2026-04-02 12:00
-- SECOND DICE   Fri 2026-04-03 10:00   Fri 2026-04-03 12:00
-- OBJECTIONS   Fri 2026-04-03 12:00   Tue 2026-04-21 24:00
pub moved_text : List ℕ
moved_text =
    80 ∷ 79 ∷ 76 ∷ 76 ∷ 73 ∷ 78 ∷ 71 ∷ 9 ∷ 84 ∷ 117 ∷ 101 ∷ 32 ∷ 50 ∷ 48 ∷ 50 ∷ 54 ∷ 45 ∷ 48 ∷ 51 ∷ 45 ∷ 51 ∷ 49 ∷ 32 ∷ 48 ∷ 56 ∷ 58 ∷
    48 ∷ 48 ∷ 9 ∷ 84 ∷ 117 ∷ 101 ∷ 32 ∷ 50 ∷ 48 ∷ 50 ∷ 54 ∷ 45 ∷ 48 ∷ 51 ∷ 45 ∷ 51 ∷ 49 ∷ 32 ∷ 50 ∷ 48 ∷ 58 ∷ 48 ∷ 48 ∷ 10 ∷ 70 ∷ 73 ∷
    82 ∷ 83 ∷ 84 ∷ 32 ∷ 68 ∷ 73 ∷ 67 ∷ 69 ∷ 9 ∷ 84 ∷ 104 ∷ 117 ∷ 32 ∷ 50 ∷ 48 ∷ 50 ∷ 54 ∷ 45 ∷ 48 ∷ 52 ∷ 45 ∷ 48 ∷ 50 ∷ 32 ∷ 49 ∷ 48 ∷
    58 ∷ 48 ∷ 48 ∷ 9 ∷ 84 ∷ 104 ∷ 117 ∷ 32 ∷ 50 ∷ 48 ∷ 50 ∷ 54 ∷ 45 ∷ 48 ∷ 52 ∷ 45 ∷ 48 ∷ 50 ∷ 32 ∷ 49 ∷ 50 ∷ 58 ∷ 48 ∷ 48 ∷ 10 ∷ 83 ∷
    69 ∷ 67 ∷ 79 ∷ 78 ∷ 68 ∷ 32 ∷ 68 ∷ 73 ∷ 67 ∷ 69 ∷ 9 ∷ 70 ∷ 114 ∷ 105 ∷ 32 ∷ 50 ∷ 48 ∷ 50 ∷ 54 ∷ 45 ∷ 48 ∷ 52 ∷ 45 ∷ 48 ∷ 51 ∷ 32 ∷
    49 ∷ 48 ∷ 58 ∷ 48 ∷ 48 ∷ 9 ∷ 70 ∷ 114 ∷ 105 ∷ 32 ∷ 50 ∷ 48 ∷ 50 ∷ 54 ∷ 45 ∷ 48 ∷ 52 ∷ 45 ∷ 48 ∷ 51 ∷ 32 ∷ 49 ∷ 50 ∷ 58 ∷ 48 ∷ 48 ∷
    10 ∷ 79 ∷ 66 ∷ 74 ∷ 69 ∷ 67 ∷ 84 ∷ 73 ∷ 79 ∷ 78 ∷ 83 ∷ 9 ∷ 70 ∷ 114 ∷ 105 ∷ 32 ∷ 50 ∷ 48 ∷ 50 ∷ 54 ∷ 45 ∷ 48 ∷ 52 ∷ 45 ∷ 48 ∷ 51 ∷
    32 ∷ 49 ∷ 50 ∷ 58 ∷ 48 ∷ 48 ∷ 9 ∷ 84 ∷ 117 ∷ 101 ∷ 32 ∷ 50 ∷ 48 ∷ 50 ∷ 54 ∷ 45 ∷ 48 ∷ 52 ∷ 45 ∷ 50 ∷ 49 ∷ 32 ∷ 50 ∷ 52 ∷ 58 ∷ 48 ∷
    48 ∷ 10 ∷ []

moved_fits : fits moved ≡ true
unfolding equal differ below at_most ◌and◌ ◌or◌ every same rule leap months days_of_month days_of_months days_of_year days_of_years dated exists day_number date_in weekday holiday working_but working minute_of window windows_on in_turn schedule_refusal numbers days is_next planned fits moved
moved_fits = refl

moved_lines : window_lines (windows_on moved.day moved.days) ≡ moved_text
unfolding below leap equal differ ◌and◌ ◌or◌ months days_of_month days_of_months days_of_year days_of_years least year_of month_of date_of weekday minute_of window windows_on days padded weekday_text date_text moment_text start_text end_text window_line window_lines moved moved_text
moved_lines = refl

pub moved_page : schedule_page (date_in moved.election) moved.holidays ≡ moved_text
moved_page = page_is moved moved_fits ∙ moved_lines

-- over the year's end

pub turn : Row
unfolding days
turn = record {
  election = 20031230;
  holidays = 20040101 ∷ [];
  day = 1459;
  days = days 1460 1462 1465 1479;
  numbers = 2101440 ∷ 2102160 ∷ 2105880 ∷ 2106000 ∷ 2110200 ∷ 2110320 ∷ 2110320 ∷ 2131200 ∷ [];
}

-- POLLING   Tue 2003-12-30 08:00   Tue 2003-12-30 20:00
-- FIRST DICE   Fri 2004-01-02 10:00   Fri 2004-01-02 12:00
-- SECOND DICE   Mon 2004-01-05 10:00   Mon 2004-01-05 12:00
-- OBJECTIONS   Mon 2004-01-05 12:00   Mon 2004-01-19 24:00
pub turn_text : List ℕ
turn_text =
    80 ∷ 79 ∷ 76 ∷ 76 ∷ 73 ∷ 78 ∷ 71 ∷ 9 ∷ 84 ∷ 117 ∷ 101 ∷ 32 ∷ 50 ∷ 48 ∷ 48 ∷ 51 ∷ 45 ∷ 49 ∷ 50 ∷ 45 ∷ 51 ∷ 48 ∷ 32 ∷ 48 ∷ 56 ∷ 58 ∷
    48 ∷ 48 ∷ 9 ∷ 84 ∷ 117 ∷ 101 ∷ 32 ∷ 50 ∷ 48 ∷ 48 ∷ 51 ∷ 45 ∷ 49 ∷ 50 ∷ 45 ∷ 51 ∷ 48 ∷ 32 ∷ 50 ∷ 48 ∷ 58 ∷ 48 ∷ 48 ∷ 10 ∷ 70 ∷ 73 ∷
    82 ∷ 83 ∷ 84 ∷ 32 ∷ 68 ∷ 73 ∷ 67 ∷ 69 ∷ 9 ∷ 70 ∷ 114 ∷ 105 ∷ 32 ∷ 50 ∷ 48 ∷ 48 ∷ 52 ∷ 45 ∷ 48 ∷ 49 ∷ 45 ∷ 48 ∷ 50 ∷ 32 ∷ 49 ∷ 48 ∷
    58 ∷ 48 ∷ 48 ∷ 9 ∷ 70 ∷ 114 ∷ 105 ∷ 32 ∷ 50 ∷ 48 ∷ 48 ∷ 52 ∷ 45 ∷ 48 ∷ 49 ∷ 45 ∷ 48 ∷ 50 ∷ 32 ∷ 49 ∷ 50 ∷ 58 ∷ 48 ∷ 48 ∷ 10 ∷ 83 ∷
    69 ∷ 67 ∷ 79 ∷ 78 ∷ 68 ∷ 32 ∷ 68 ∷ 73 ∷ 67 ∷ 69 ∷ 9 ∷ 77 ∷ 111 ∷ 110 ∷ 32 ∷ 50 ∷ 48 ∷ 48 ∷ 52 ∷ 45 ∷ 48 ∷ 49 ∷ 45 ∷ 48 ∷ 53 ∷ 32 ∷
    49 ∷ 48 ∷ 58 ∷ 48 ∷ 48 ∷ 9 ∷ 77 ∷ 111 ∷ 110 ∷ 32 ∷ 50 ∷ 48 ∷ 48 ∷ 52 ∷ 45 ∷ 48 ∷ 49 ∷ 45 ∷ 48 ∷ 53 ∷ 32 ∷ 49 ∷ 50 ∷ 58 ∷ 48 ∷ 48 ∷
    10 ∷ 79 ∷ 66 ∷ 74 ∷ 69 ∷ 67 ∷ 84 ∷ 73 ∷ 79 ∷ 78 ∷ 83 ∷ 9 ∷ 77 ∷ 111 ∷ 110 ∷ 32 ∷ 50 ∷ 48 ∷ 48 ∷ 52 ∷ 45 ∷ 48 ∷ 49 ∷ 45 ∷ 48 ∷ 53 ∷
    32 ∷ 49 ∷ 50 ∷ 58 ∷ 48 ∷ 48 ∷ 9 ∷ 77 ∷ 111 ∷ 110 ∷ 32 ∷ 50 ∷ 48 ∷ 48 ∷ 52 ∷ 45 ∷ 48 ∷ 49 ∷ 45 ∷ 49 ∷ 57 ∷ 32 ∷ 50 ∷ 52 ∷ 58 ∷ 48 ∷
    48 ∷ 10 ∷ []

turn_fits : fits turn ≡ true
unfolding equal differ below at_most ◌and◌ ◌or◌ every same rule leap months days_of_month days_of_months days_of_year days_of_years dated exists day_number date_in weekday holiday working_but working minute_of window windows_on in_turn schedule_refusal numbers days is_next planned fits turn
turn_fits = refl

turn_lines : window_lines (windows_on turn.day turn.days) ≡ turn_text
unfolding below leap equal differ ◌and◌ ◌or◌ months days_of_month days_of_months days_of_year days_of_years least year_of month_of date_of weekday minute_of window windows_on days padded weekday_text date_text moment_text start_text end_text window_line window_lines turn turn_text
turn_lines = refl

pub turn_page : schedule_page (date_in turn.election) turn.holidays ≡ turn_text
turn_page = page_is turn turn_fits ∙ turn_lines

-- a day that does not exist: "REFUSED 22"
pub refused_page : schedule_page (date_in 21000229) [] ≡ 82 ∷ 69 ∷ 70 ∷ 85 ∷ 83 ∷ 69 ∷ 68 ∷ 32 ∷ 50 ∷ 50 ∷ 10 ∷ []
unfolding equal differ below at_most ◌and◌ ◌or◌ every rule choose leap months days_of_month dated exists date_in in_turn schedule_refusal digits decimal schedule_page
refused_page = refl
