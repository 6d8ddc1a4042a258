-- The year and the month that a day lies in, found one after the other.
use mathlib.Core.Path.{◌≡◌, refl, sym, ap, ◌∙◌}
use Prim.Native.Nat.{ℕ, suc, ◌+◌, ◌-◌, ◌≤◌, ◌<◌}
use native.Mathlib.Decide.{dec_lt}
use native.Mathlib.Omega.{arith}
use Rattle.laws.specs.Tests.{below, is_below, not_below}
use Rattle.schedule.specs.Dates.{days_of_month, days_of_months, days_of_year, days_of_years, year_of, month_of, date_of}
use Rattle.schedule.specs.declared.Date.{Date}
use Rattle.schedule.proofs.Prefixes.{Part, locate}
use Rattle.schedule.proofs.Least.{least_is}
use Rattle.schedule.proofs.Lengths.{years_days}
use Rattle.schedule.proofs.Dating.{years_up, months_up}

years_more : (y : ℕ) → days_of_years (suc y) ≡ days_of_years y + days_of_year (2000 + y)
unfolding days_of_years
years_more y = refl

-- a day that lies in year y or, if y is 200, after the years before
pub year_is : (d y : ℕ) → y ≤ 200 → days_of_years y ≤ d → (y < 200 → d < days_of_years (suc y)) → 2000 + y ≡ year_of d
unfolding year_of
year_is d y l from to =
    ap (λ (n : ℕ). 2000 + n)
    (sym
    (least_is (λ i. below d (days_of_years (suc i))) 200 y l
    (λ i h. not_below (omega (arith, years_up (suc i) y h)))
    (λ h. is_below (to h))))

pub month_is : (year d m : ℕ) → m ≤ 11 → days_of_months year m ≤ d → (m < 11 → d < days_of_months year (suc m)) → 1 + m ≡ month_of year d
unfolding month_of
month_is year d m l from to =
    ap (λ (n : ℕ). 1 + n)
    (sym
    (least_is (λ i. below d (days_of_months year (suc i))) 11 m l
    (λ i h. not_below (omega (arith, months_up year (suc i) m h)))
    (λ h. is_below (to h))))

-- ---- the loops

-- the day is not before this year
pub record Reached (d year : ℕ) : Type 0 where
  pub low : 2000 ≤ year
  pub high : year ≤ 2200
  pub from : days_of_years (year - 2000) ≤ d

pub first_year : (d : ℕ) → Reached d 2000
first_year d = record { low = omega arith; high = omega arith; from = omega (arith, years_days 0 (omega arith)) }

-- n is what the code finds for the days up to this year's end
module _ {d year n : ℕ} (r : Reached d year) (is : n ≡ days_of_years ((year + 1) - 2000)) where
  pub next_year : d < 73414 → n ≤ d → Reached d (year + 1)
  next_year l h = record {
    low = omega (arith, r.low);
    high = go (dec_lt year 2200);
    from = omega (arith, is);
  }
    where
      go : Dec (year < 2200) → year + 1 ≤ 2200
      go (yes k) = omega arith
      go (no k) =
          let e : (year + 1) - 2000 ≡ 201 = omega (arith, r.high) in
          absurd (omega (arith, is, ap days_of_years e, years_days 201 (omega arith)))

  pub this_year : d < n → year ≡ year_of d
  this_year h =
      let one : (year + 1) - 2000 ≡ suc (year - 2000) = omega (arith, r.low) in
      let back : year ≡ 2000 + (year - 2000) = omega (arith, r.low) in
      back ∙ year_is d (year - 2000) (omega (arith, r.high)) r.from (λ l. omega (arith, is, ap days_of_years one))

pub last_year : {d year : ℕ} → Reached d year → 2200 ≤ year → 2200 ≡ year_of d
last_year {d} {year} r h =
    let e : year ≡ 2200 = omega (arith, r.high) in
    year_is d 200 (omega arith) (omega (arith, r.from, ap (λ (y : ℕ). days_of_years (y - 2000)) e)) (λ l. absurd (omega arith))

-- the day of a year is not before this month
pub record InYear (year d month : ℕ) : Type 0 where
  pub first : 1 ≤ month
  pub last : month ≤ 12
  pub from : days_of_months year (month - 1) ≤ d

pub first_month : (year d : ℕ) → InYear year d 1
unfolding days_of_months
first_month year d = record { first = omega arith; last = omega arith; from = omega arith }

module _ {year d month : ℕ} (r : InYear year d month) where
  month_found : (month < 12 → d < days_of_months year (suc (month - 1))) → month ≡ month_of year d
  month_found to =
      let back : month ≡ 1 + (month - 1) = omega (arith, r.first) in
      back ∙ month_is year d (month - 1) (omega (arith, r.last)) r.from (λ l. to (omega arith))

  pub last_month : 12 ≤ month → 12 ≡ month_of year d
  last_month h = let e : 12 ≡ month = omega (arith, r.last) in e ∙ month_found (λ l. absurd (omega arith))

  module _ {n : ℕ} (is : n ≡ days_of_months year ((month + 1) - 1)) where
    pub this_month : d < n → month ≡ month_of year d
    this_month h =
        let one : (month + 1) - 1 ≡ suc (month - 1) = omega (arith, r.first) in
        month_found (λ l. omega (arith, is, ap (days_of_months year) one))

    pub next_month : month < 12 → n ≤ d → InYear year d (month + 1)
    next_month l h = record { first = omega arith; last = omega arith; from = omega (arith, is) }

-- ---- what is found

-- a day is in its year, and one of a year is in its month
record Has (d : ℕ) : Type 0 where
  pub from : days_of_years (year_of d - 2000) ≤ d
  pub to : d - days_of_years (year_of d - 2000) < days_of_year (year_of d)

year_at : (d y : ℕ) → y ≤ 200 → days_of_years y ≤ d → d < days_of_years y + days_of_year (2000 + y) → Has d
year_at d y l from to =
    let e : 2000 + y ≡ year_of d = year_is d y l from (λ h. omega (arith, years_more y)) in
    let back : year_of d - 2000 ≡ y = omega (arith, e) in
    record {
      from = omega (arith, ap days_of_years back);
      to = omega (arith, ap days_of_years back, ap days_of_year e);
    }

year_before : (d n : ℕ) → n ≤ 201 → d < days_of_years n → Has d
unfolding days_of_years
year_before d n few l = go (locate (λ y. days_of_year (2000 + y)) n d l)
  where
    go : Part (λ y. days_of_year (2000 + y)) n d → Has d
    go p = year_at d p.index (omega (arith, p.within)) p.from p.to

year_has : (d : ℕ) → d < 73414 → Has d
year_has d l = year_before d 201 (omega arith) (omega (arith, years_days 201 (omega arith)))

month_at : (year d m : ℕ) → m ≤ 11 → days_of_months year m ≤ d → d < days_of_months year (suc m) → days_of_months year (month_of year d - 1) ≤ d
month_at year d m l from to =
    let e : 1 + m ≡ month_of year d = month_is year d m l from (λ h. to) in
    let back : month_of year d - 1 ≡ m = omega (arith, e) in
    omega (arith, ap (days_of_months year) back)

month_has : (year d : ℕ) → d < days_of_year year → days_of_months year (month_of year d - 1) ≤ d
unfolding days_of_year days_of_months
month_has year d l = go (locate (λ m. days_of_month year (m + 1)) 12 d l)
  where
    go : Part (λ m. days_of_month year (m + 1)) 12 d → days_of_months year (month_of year d - 1) ≤ d
    go p = month_at year d p.index (omega (arith, p.within)) p.from p.to

-- the code's numbers for a day: its year, the days before it, its month, and the days of the year before that
module _ {d year n : ℕ} (l : d < 73414) (is : year ≡ year_of d) (days : n ≡ days_of_years (year - 2000)) where
  pub year_from : n ≤ d
  year_from = omega (arith, (year_has d l).from, days, ap (λ (y : ℕ). days_of_years (y - 2000)) is)

  pub year_to : d - n < days_of_year year
  year_to = omega (arith, (year_has d l).to, days, ap (λ (y : ℕ). days_of_years (y - 2000)) is, ap days_of_year is)

  module _ {month m : ℕ} (has : month ≡ month_of year (d - n)) (months : m ≡ days_of_months year (month - 1)) where
    pub month_from : m ≤ d - n
    month_from = omega (arith, month_has year (d - n) year_to, months, ap (λ (k : ℕ). days_of_months year (k - 1)) has)

    pub date_is : ◌≡◌ {A = Date} (record { year = year; month = month; day = 1 + ((d - n) - m) }) (date_of d)
    unfolding date_of
    date_is = rw (← is, ← days, ← has, ← months)
