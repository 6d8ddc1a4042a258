-- Document 02, item 7: dates of the Gregorian calendar, and days by their number, that of 2000-01-01 being 0.
use Rattle.std.specs.Prelude.{Bool, List, [], ◌∷◌, ℕ, zero, suc, ◌+◌, ◌-◌, ◌*◌, ◌/◌, ◌%◌}
use Rattle.laws.specs.Tests.{equal, differ, below, at_most, ◌and◌, ◌or◌, pick}
use Rattle.laws.specs.Sums.{sum}
use Rattle.protocol.specs.Terms.{item}
use Rattle.schedule.specs.declared.Date.{Date}

-- a Gregorian leap year: 4 divides it and 100 does not, or 400 does
unfoldable pub leap : ℕ → Bool
leap year = equal (year % 400) 0 or (equal (year % 4) 0 and differ (year % 100) 0)

-- the days of January to December, of a leap year or of another one
unfoldable pub months : Bool → List ℕ
months leap = 31 ∷ pick leap 29 28 ∷ 31 ∷ 30 ∷ 31 ∷ 30 ∷ 31 ∷ 31 ∷ 30 ∷ 31 ∷ 30 ∷ 31 ∷ []

-- January is month 1
unfoldable pub days_of_month : ℕ → ℕ → ℕ
days_of_month year month = item (months (leap year)) (month - 1)

-- the days of the first n months of a year
unfoldable pub days_of_months : ℕ → ℕ → ℕ
days_of_months year n = sum (λ m. days_of_month year (m + 1)) n

unfoldable pub days_of_year : ℕ → ℕ
days_of_year year = days_of_months year 12

-- the days of n years from 2000 on
unfoldable pub days_of_years : ℕ → ℕ
days_of_years n = sum (λ y. days_of_year (2000 + y)) n

-- a date of the Gregorian calendar from 2000 on: the month has that day
unfoldable pub dated : Date → Bool
dated t =
    at_most 2000 t.year
    and ((at_most 1 t.month and at_most t.month 12) and (at_most 1 t.day and at_most t.day (days_of_month t.year t.month)))

-- "(Gregorian year 2000 to 2199, month, day)"; its opposite is "a day that does not exist in those years"
unfoldable pub exists : Date → Bool
exists t = at_most t.year 2199 and dated t

-- how many days are before it, from 2000-01-01 on: those of the years, of the months and of the month before it
unfoldable pub day_number : Date → ℕ
day_number t = days_of_years (t.year - 2000) + (days_of_months t.year (t.month - 1) + (t.day - 1))

-- a holiday is lent as a number, year × 10,000 + month × 100 + day
unfoldable pub date_in : ℕ → Date
date_in number = record { year = number / 10000; month = number / 100 % 100; day = number % 100 }

unfoldable pub number_of : Date → ℕ
number_of t = t.year * 10000 + (t.month * 100 + t.day)

-- ---- the date of a day

-- the least number below n that meets a test, or n
unfoldable pub least : (ℕ → Bool) → ℕ → ℕ
least test zero = 0
least test (suc n) = pick (test 0) 0 (suc (least (λ i. test (suc i)) n))

-- the year that has a day, the day being before 2201
unfoldable pub year_of : ℕ → ℕ
year_of d = 2000 + least (λ y. below d (days_of_years (suc y))) 200

-- the month of a year that has its day d, the first day being 0
unfoldable pub month_of : ℕ → ℕ → ℕ
month_of year d = 1 + least (λ m. below d (days_of_months year (suc m))) 11

-- `day_number` and this lead back from each other: `there_and_back`, `back_and_there` in proofs/Corresponding.antt
unfoldable pub date_of : ℕ → Date
date_of d =
    let year = year_of d in
    let rest = d - days_of_years (year - 2000) in
    let month = month_of year rest in
    record { year = year; month = month; day = 1 + (rest - days_of_months year (month - 1)) }
