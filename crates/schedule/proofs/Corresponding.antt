-- Document 02, item 7: each day number has its date, and from one to the other and back is where it started.
use mathlib.Core.Path.{◌≡◌, sym, ap}
use mathlib.Core.Logic.{◌↔◌}
use mathlib.Core.Bool.{true}
use Prim.Native.Nat.{ℕ, suc, ◌+◌, ◌-◌, ◌≤◌, ◌<◌}
use native.Mathlib.Decide.{dec_lt}
use native.Mathlib.Omega.{arith}
use Rattle.schedule.specs.Dates.{days_of_month, days_of_months, days_of_year, days_of_years, year_of, month_of, date_of, exists, day_number}
use Rattle.schedule.specs.declared.Date.{Date}
use Rattle.schedule.proofs.Prefixes.{Part, locate}
use Rattle.schedule.proofs.Lengths.{years_days}
use Rattle.schedule.proofs.Located.{year_is, month_is}
use Rattle.schedule.proofs.Dating.{Dated, exists_by, exists_below, number_below, number_is, all_days, years_up, one_date}

-- a date with that number
pub record Numbered (d : ℕ) (t : Date) : Type 0 where
  pub dated : Dated t
  pub high : t.year ≤ 2200
  pub number : day_number t ≡ d

-- a day of month m, from 0, of year y, from 2000
numbered_at : (d y m : ℕ) → y ≤ 200 → m ≤ 11 → days_of_years y ≤ d → d < days_of_years (suc y) → days_of_months (2000 + y) m ≤ d - days_of_years y
    → d - days_of_years y < days_of_months (2000 + y) m + days_of_month (2000 + y) (m + 1) → Numbered d (date_of d)
unfolding date_of day_number days_of_months
numbered_at d y m few twelve from to low high =
    let year : year_of d ≡ 2000 + y = sym (year_is d y few from (λ l. to)) in
    let back : (2000 + y) - 2000 ≡ y = omega arith in
    let month : month_of (2000 + y) (d - days_of_years y) ≡ 1 + m = sym (month_is (2000 + y) (d - days_of_years y) m twelve low (λ l. high)) in
    let before : (1 + m) - 1 ≡ m = omega arith in
    let next : 1 + m ≡ m + 1 = omega arith in
    rw (year, back, month, before)
    (record {
      dated = record {
        low = omega arith;
        first = omega arith;
        last = omega arith;
        from = omega arith;
        to = omega (arith, ap (days_of_month (2000 + y)) next);
      };
      high = omega arith;
      number = rw (back, before) (omega arith);
    })

numbered_in : (d n : ℕ) → n ≤ 201 → d < days_of_years n → Numbered d (date_of d)
unfolding days_of_years days_of_year days_of_months
numbered_in d n few l = years (locate (λ y. days_of_year (2000 + y)) n d l)
  where
    years : Part (λ y. days_of_year (2000 + y)) n d → Numbered d (date_of d)
    years p = months (locate (λ m. days_of_month (2000 + p.index) (m + 1)) 12 (d - days_of_years p.index) (omega (arith, p.from, p.to)))
      where
        months : Part (λ m. days_of_month (2000 + p.index) (m + 1)) 12 (d - days_of_years p.index) → Numbered d (date_of d)
        months q =
            numbered_at d p.index q.index (omega (arith, p.within)) (omega (arith, q.within)) p.from p.to q.from q.to

-- each day of the years 2000 to 2200 has a date with its number
pub back_and_there : (d : ℕ) → d < 73414 → Numbered d (date_of d)
back_and_there d l = numbered_in d 201 (omega arith) (omega (arith, years_days 201 (omega arith)))

-- .. and each date is that of its number
pub there_and_back : (t : Date) → Dated t → t.year ≤ 2200 → date_of (day_number t) ≡ t
there_and_back t v l =
    let n = back_and_there (day_number t) (omega (arith, number_below t v 201 (omega arith), years_days 201 (omega arith))) in
    one_date (date_of (day_number t)) t n.dated v n.number

-- the dates that exist from 2000 to 2199 have the numbers 0 to 73,048
pub exists_iff : (d : ℕ) → d < 73414 → (exists (date_of d) ≡ true) ↔ (d < 73049)
exists_iff d l =
    (λ e. omega (arith, exists_below (date_of d) e, n.number), λ h. exists_by (date_of d) (year h (dec_lt (date_of d).year 2200)) n.dated)
  where
    n : Numbered d (date_of d)
    n = back_and_there d l

    year : d < 73049 → Dec ((date_of d).year < 2200) → (date_of d).year ≤ 2199
    year h (yes k) = omega arith
    year h (no k) = absurd (omega (arith, number_is (date_of d), n.number, all_days, years_up 200 ((date_of d).year - 2000) (omega arith)))
