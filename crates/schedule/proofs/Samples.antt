-- Document 02, item 7: elections worked out from the item's sentences by another calendar, against what the definitions give. One fact is
-- about all rows.
use mathlib.Core.Path.{◌≡◌, refl, sym, ap, ap₂, ◌∙◌}
use mathlib.Core.Bool.{Bool, true, not}
use mathlib.Core.List.{List, [], ◌∷◌, map}
use Prim.Native.Nat.{ℕ, suc, ◌+◌, ◌-◌}
use native.Mathlib.Omega.{arith}
use borrow.Author.Tests.{not-true}
use Rattle.laws.specs.Tests.{equal, differ, below, at_most, ◌and◌, ◌or◌, every, same, equal_iff, below_iff, at_most_iff, and_iff, every_iff, same_iff}
use Rattle.laws.specs.Faults.{rule}
use Rattle.protocol.specs.Answers.{Answer, done, refused, answer_of}
use Rattle.schedule.specs.Dates.{leap, months, days_of_month, days_of_months, days_of_year, days_of_years, dated, exists, day_number, date_in}
use Rattle.schedule.specs.Working.{weekday, holiday, working_but, working}
use Rattle.schedule.specs.Windows.{days_after, minute_of, window, windows_on, windows, inside, window_of, in_turn, schedule_refusal, numbers, scheduled, window_at}
use Rattle.schedule.specs.declared.Days.{Days}
use Rattle.schedule.specs.declared.Windows.{Windows}
use Rattle.schedule.proofs.Counting.{Next}
use Rattle.schedule.proofs.Planning.{Plan, plan_found}
use Rattle.schedule.proofs.Answering.{minute_set}

-- an election and its holidays, as year × 10,000 + month × 100 + day; its day and the days of its windows; and the eight numbers
pub record Row : Type 0 where
  pub election : ℕ
  pub holidays : List ℕ
  pub day : ℕ
  pub days : Days
  pub numbers : List ℕ

unfoldable pub days : ℕ → ℕ → ℕ → ℕ → Days
days next first second last = record { next = next; first = first; second = second; last = last }

-- an ordinary election, on a Tuesday: Thu 2026-11-19, Fri 2026-11-20, to the end of Fri 2026-12-04
pub ordinary : Row
unfolding days
ordinary = record {
  election = 20261117;
  holidays = [];
  day = 9817;
  days = days 9818 9819 9820 9834;
  numbers = 14136960 ∷ 14137680 ∷ 14139960 ∷ 14140080 ∷ 14141400 ∷ 14141520 ∷ 14141520 ∷ 14162400 ∷ [];
}

pub samples : List Row
unfolding days
samples =
    ordinary
    -- only a holiday moves the objections' end: the fourteenth day, a Friday, is one, and so is the Monday after it: Thu 2026-04-02, Fri 2026-04-03, to the end of Tue 2026-04-21
    ∷ record {
      election = 20260331;
      holidays = 20260417 ∷ 20260420 ∷ [];
      day = 9586;
      days = days 9587 9588 9589 9607;
      numbers = 13804320 ∷ 13805040 ∷ 13807320 ∷ 13807440 ∷ 13808760 ∷ 13808880 ∷ 13808880 ∷ 13835520 ∷ [];
    }
    -- the days before Easter: Good Friday and Easter Monday: Wed 2026-04-08, Thu 2026-04-09, to the end of Thu 2026-04-23
    ∷ record {
      election = 20260402;
      holidays = 20260403 ∷ 20260406 ∷ [];
      day = 9588;
      days = days 9593 9594 9595 9609;
      numbers = 13807200 ∷ 13807920 ∷ 13815960 ∷ 13816080 ∷ 13817400 ∷ 13817520 ∷ 13817520 ∷ 13838400 ∷ [];
    }
    -- a leap day is a working day: Wed 2028-03-01, Thu 2028-03-02, to the end of Thu 2028-03-16
    ∷ record {
      election = 20280228;
      holidays = [];
      day = 10285;
      days = days 10286 10287 10288 10302;
      numbers = 14810880 ∷ 14811600 ∷ 14813880 ∷ 14814000 ∷ 14815320 ∷ 14815440 ∷ 14815440 ∷ 14836320 ∷ [];
    }
    -- 2100 has no leap day: the day after Friday's next Sunday is 1 March: Tue 2100-03-02, Wed 2100-03-03, to the end of Wed 2100-03-17
    ∷ record {
      election = 21000226;
      holidays = [];
      day = 36581;
      days = days 36584 36585 36586 36600;
      numbers = 52677120 ∷ 52677840 ∷ 52683000 ∷ 52683120 ∷ 52684440 ∷ 52684560 ∷ 52684560 ∷ 52705440 ∷ [];
    }
    -- the year's end: Mon 2027-01-04, Tue 2027-01-05, to the end of Tue 2027-01-19
    ∷ record {
      election = 20261230;
      holidays = 20270101 ∷ [];
      day = 9860;
      days = days 9861 9865 9866 9880;
      numbers = 14198880 ∷ 14199600 ∷ 14206200 ∷ 14206320 ∷ 14207640 ∷ 14207760 ∷ 14207760 ∷ 14228640 ∷ [];
    }
    -- a Friday, with a holiday on Monday: Wed 2026-05-27, Thu 2026-05-28, to the end of Thu 2026-06-11
    ∷ record {
      election = 20260522;
      holidays = 20260525 ∷ [];
      day = 9638;
      days = days 9642 9643 9644 9658;
      numbers = 13879200 ∷ 13879920 ∷ 13886520 ∷ 13886640 ∷ 13887960 ∷ 13888080 ∷ 13888080 ∷ 13908960 ∷ [];
    }
    -- the last day: windows run past 2199: Thu 2200-01-02, Fri 2200-01-03, to the end of Fri 2200-01-17
    ∷ record {
      election = 21991231;
      holidays = 21991231 ∷ [];
      day = 73048;
      days = days 73049 73050 73051 73065;
      numbers = 105189600 ∷ 105190320 ∷ 105192600 ∷ 105192720 ∷ 105194040 ∷ 105194160 ∷ 105194160 ∷ 105215040 ∷ [];
    }
    -- holidays at the weekend count for nothing, nor does one before the election: Tue 2026-11-17, Wed 2026-11-18, to the end of Wed 2026-12-02
    ∷ record {
      election = 20261113;
      holidays = 20261102 ∷ 20261114 ∷ 20261115 ∷ [];
      day = 9813;
      days = days 9816 9817 9818 9832;
      numbers = 14131200 ∷ 14131920 ∷ 14137080 ∷ 14137200 ∷ 14138520 ∷ 14138640 ∷ 14138640 ∷ 14159520 ∷ [];
    }
    -- an election on a holiday, at a weekend: Tue 2026-12-29, Wed 2026-12-30, to the end of Wed 2027-01-13
    ∷ record {
      election = 20261226;
      holidays = 20261225 ∷ 20261226 ∷ [];
      day = 9856;
      days = days 9858 9859 9860 9874;
      numbers = 14193120 ∷ 14193840 ∷ 14197560 ∷ 14197680 ∷ 14199000 ∷ 14199120 ∷ 14199120 ∷ 14220000 ∷ [];
    }
    -- holidays one behind the other, over a weekend: Wed 2026-11-25, Thu 2026-11-26, to the end of Thu 2026-12-10
    ∷ record {
      election = 20261117;
      holidays = 20261118 ∷ 20261119 ∷ 20261120 ∷ 20261121 ∷ 20261122 ∷ 20261123 ∷ [];
      day = 9817;
      days = days 9824 9825 9826 9840;
      numbers = 14136960 ∷ 14137680 ∷ 14148600 ∷ 14148720 ∷ 14150040 ∷ 14150160 ∷ 14150160 ∷ 14171040 ∷ [];
    }
    -- the first day of all: Wed 2000-01-05, Thu 2000-01-06, to the end of Thu 2000-01-20
    ∷ record {
      election = 20000101;
      holidays = 20000103 ∷ [];
      day = 0;
      days = days 3 4 5 19;
      numbers = 480 ∷ 1200 ∷ 6360 ∷ 6480 ∷ 7800 ∷ 7920 ∷ 7920 ∷ 28800 ∷ [];
    }
    ∷ []

-- ---- a row is tried by its days

unfoldable pub is_next : (ℕ → Bool) → ℕ → ℕ → Bool
is_next works d x = (below d x and works x) and (every (λ j. not (works (d + suc j))) (x - suc d) and at_most x ((d + (73049 - d)) + 3))

next_by : (works : ℕ → Bool) (d x : ℕ) → is_next works d x ≡ true → Next works d x
unfolding is_next
next_by works d x e =
    let (a, b) = (and_iff _ _).0 e in
    let (above, is) = (and_iff _ _).0 a in
    let (none, near) = (and_iff _ _).0 b in
    record {
      above = (below_iff _ _).0 above;
      is = is;
      none = λ y l m.
          let back : d + suc (y - suc d) ≡ y = omega arith in
          ap works (sym back) ∙ not-true _ ((every_iff _ _).0 none (y - suc d) (omega arith));
      near = (at_most_iff _ _).0 near;
    }

unfoldable pub planned : (ℕ → Bool) → ℕ → Days → Bool
planned works d s =
    (is_next works d s.next and is_next works s.next s.first) and (is_next works s.first s.second and is_next works (s.second + 13) s.last)

pub plan_by : (works : ℕ → Bool) (d : ℕ) (s : Days) → planned works d s ≡ true → Plan works d s
unfolding planned
plan_by works d s e =
    let (a, b) = (and_iff _ _).0 e in
    let (next, first) = (and_iff _ _).0 a in
    let (second, last) = (and_iff _ _).0 b in
    record { next = next_by _ _ _ next; first = next_by _ _ _ first; second = next_by _ _ _ second; last = next_by _ _ _ last }

unfoldable pub fits : Row → Bool
fits r =
    (equal (schedule_refusal (date_in r.election) r.holidays) 0 and equal (day_number (date_in r.election)) r.day)
    and (planned (working r.holidays) r.day r.days and same (numbers (windows_on r.day r.days)) r.numbers)

fits_is : (r : Row) → fits r ≡ true → scheduled (date_in r.election) r.holidays ≡ done r.numbers
unfolding fits scheduled windows answer_of
fits_is r e =
    let (a, b) = (and_iff _ _).0 e in
    let (kept, day) = (and_iff _ _).0 a in
    let (plan, all) = (and_iff _ _).0 b in
    let found : r.days ≡ days_after (working r.holidays) r.day = plan_found _ _ _ (plan_by _ _ _ plan) in
    rw ((equal_iff _ _).0 kept, (equal_iff _ _).0 day, sym found) (ap done ((same_iff _ _).0 all))

all_fit : List Row → Bool
all_fit [] = true
all_fit (r ∷ rs) = fits r and all_fit rs

pub answers : List Row → List Answer
answers rows = map (λ (r : Row). scheduled (date_in r.election) r.holidays) rows

pub expected : List Row → List Answer
expected rows = map (λ (r : Row). done r.numbers) rows

all_fit_lem : (rows : List Row) → all_fit rows ≡ true → answers rows ≡ expected rows
unfolding all_fit answers expected
all_fit_lem [] e = refl
all_fit_lem (r ∷ rs) e = let (a, b) = (and_iff _ _).0 e in ap₂ (λ (x : Answer) (xs : List Answer). x ∷ xs) (fits_is r a) (all_fit_lem rs b)

fitting : all_fit samples ≡ true
unfolding equal differ below at_most ◌and◌ ◌or◌ every same rule leap months days_of_month days_of_months days_of_year days_of_years dated exists day_number date_in weekday holiday working_but working minute_of window windows_on in_turn schedule_refusal numbers ordinary samples days is_next planned fits all_fit
fitting = refl

pub all_samples : answers samples ≡ expected samples
all_samples = all_fit_lem samples fitting

-- ---- minutes of the first election: the ends are not inside, and noon of the second dice's day is the objections'

pub minutes : List ℕ
minutes =
    0 ∷ 14136959 ∷ 14136960 ∷ 14137679 ∷ 14137680 ∷ 14139959 ∷ 14139960 ∷ 14140079 ∷ 14140080 ∷ 14141399 ∷ 14141400 ∷ 14141519 ∷ 14141520
    ∷ 14162399 ∷ 14162400 ∷ 18446744073709551615 ∷ []

its_windows : Windows
its_windows = windows_on ordinary.day ordinary.days

its_fits : fits ordinary ≡ true
unfolding equal differ below at_most ◌and◌ ◌or◌ every same rule leap months days_of_month days_of_months days_of_year days_of_years dated exists day_number date_in weekday holiday working_but working minute_of window windows_on in_turn schedule_refusal numbers days is_next planned fits ordinary
its_fits = refl

its_numbers : done (numbers its_windows) ≡ done ordinary.numbers
unfolding numbers windows_on window minute_of its_windows ordinary days
its_numbers = refl

asked : List ℕ → List Answer
asked ms = map (λ (m : ℕ). window_at (date_in ordinary.election) ordinary.holidays m) ms

by_windows : (ms : List ℕ) → asked ms ≡ map (λ (m : ℕ). done (window_of its_windows m ∷ [])) ms
unfolding asked
by_windows [] = refl
by_windows (m ∷ ms) =
    ap₂ (λ (x : Answer) (xs : List Answer). x ∷ xs)
    (sym (minute_set (date_in ordinary.election) ordinary.holidays m its_windows (its_numbers ∙ sym (fits_is ordinary its_fits)) refl))
    (by_windows ms)

computed : map (λ (m : ℕ). done (window_of its_windows m ∷ [])) minutes ≡ map (λ (k : ℕ). done (k ∷ [])) (0 ∷ 0 ∷ 1 ∷ 1 ∷ 0 ∷ 0 ∷ 2 ∷ 2 ∷ 0 ∷ 0 ∷ 3 ∷ 3 ∷ 4 ∷ 4 ∷ 0 ∷ 0 ∷ [])
unfolding at_most below ◌and◌ inside window_of windows_on window minute_of its_windows ordinary days minutes
computed = refl

pub all_minutes : map (λ (m : ℕ). window_at (date_in ordinary.election) ordinary.holidays m) minutes
    ≡ map (λ (k : ℕ). done (k ∷ [])) (0 ∷ 0 ∷ 1 ∷ 1 ∷ 0 ∷ 0 ∷ 2 ∷ 2 ∷ 0 ∷ 0 ∷ 3 ∷ 3 ∷ 4 ∷ 4 ∷ 0 ∷ 0 ∷ [])
unfolding asked
all_minutes = by_windows minutes ∙ computed

-- ---- what is refused

-- an election, and its holidays
pub record Unfit : Type 0 where
  pub election : ℕ
  pub holidays : List ℕ

pub unfit : List Unfit
unfit =
    -- days that do not exist: before 2000, behind 2199, no leap year, a month of 30 days, months 0 and 13, days 0 and 32
    record { election = 19991231; holidays = [] }
    ∷ record { election = 22000101; holidays = [] }
    ∷ record { election = 20260229; holidays = [] }
    ∷ record { election = 21000229; holidays = [] }
    ∷ record { election = 20260431; holidays = [] }
    ∷ record { election = 20260010; holidays = [] }
    ∷ record { election = 20261310; holidays = [] }
    ∷ record { election = 20261100; holidays = [] }
    ∷ record { election = 20261232; holidays = [] }
    -- .. and as holidays, alone and behind others
    ∷ record { election = 20261117; holidays = 21000229 ∷ [] }
    ∷ record { election = 20261117; holidays = 20260101 ∷ 20260230 ∷ 20260406 ∷ [] }
    ∷ record { election = 20261117; holidays = 20260101 ∷ 22000101 ∷ [] }
    -- a holiday twice, and two that fall
    ∷ record { election = 20261117; holidays = 20260101 ∷ 20260101 ∷ [] }
    ∷ record { election = 20261117; holidays = 20260101 ∷ 20261225 ∷ 20260406 ∷ [] }
    ∷ []

pub all_refused : map (λ (r : Unfit). scheduled (date_in r.election) r.holidays) unfit ≡ map (λ (r : Unfit). refused 22) unfit
unfolding equal differ below at_most ◌and◌ ◌or◌ every rule answer_of leap months days_of_month days_of_months days_of_year days_of_years dated exists day_number date_in holiday in_turn schedule_refusal scheduled unfit
all_refused = refl

-- ---- weekdays from another calendar: a Tuesday, a leap day, a Friday, the last day of the 200 years

pub all_weekdays : map (λ (n : ℕ). weekday (day_number (date_in n))) (20000101 ∷ 20261117 ∷ 20280229 ∷ 21000226 ∷ 21991231 ∷ []) ≡ 5 ∷ 1 ∷ 1 ∷ 4 ∷ 1 ∷ []
unfolding equal differ ◌and◌ ◌or◌ leap months days_of_month days_of_months days_of_year days_of_years day_number date_in weekday
all_weekdays = refl
