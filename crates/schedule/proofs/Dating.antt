-- Document 02, item 7: day numbers and dates correspond one to one, and rise together.
use mathlib.Core.Path.{◌≡◌, refl, sym, ap, ap₂, ◌∙◌}
use mathlib.Core.Logic.{◌↔◌, ◌⊎◌, inl, inr}
use mathlib.Core.Bool.{Bool, true, false}
use Prim.Native.Nat.{ℕ, ◌+◌, ◌-◌, ◌*◌, ◌/◌, ◌%◌, ◌≤◌, ◌<◌}
use native.Mathlib.Decide.{ℕ_discrete, dec_lt}
use native.Mathlib.Omega.{arith}
use Rattle.laws.specs.Tests.{at_most, ◌and◌, every, at_most_iff, and_iff, every_iff, and_go, never, refuted}
use Rattle.protocol.specs.Terms.{item}
use Rattle.schedule.specs.Dates.{leap, months, days_of_month, days_of_months, days_of_year, days_of_years, dated, exists, day_number, date_in, number_of}
use Rattle.schedule.specs.declared.Date.{Date}
use Rattle.schedule.proofs.Prefixes.{sum_up, sum_part}
use Rattle.schedule.proofs.Lengths.{years_days}

-- what the tests of a date say
pub record Dated (t : Date) : Type 0 where
  pub low : 2000 ≤ t.year
  pub first : 1 ≤ t.month
  pub last : t.month ≤ 12
  pub from : 1 ≤ t.day
  pub to : t.day ≤ days_of_month t.year t.month

pub dated_is : (t : Date) → dated t ≡ true → Dated t
unfolding dated
dated_is t e =
    let (year, rest) = (and_iff _ _).0 e in
    let (month, day) = (and_iff _ _).0 rest in
    let (a, b) = (and_iff _ _).0 month in
    let (c, d) = (and_iff _ _).0 day in
    record {
      low = (at_most_iff _ _).0 year;
      first = (at_most_iff _ _).0 a;
      last = (at_most_iff _ _).0 b;
      from = (at_most_iff _ _).0 c;
      to = (at_most_iff _ _).0 d;
    }

pub dated_by : (t : Date) → Dated t → dated t ≡ true
unfolding dated
dated_by t v =
    (and_iff _ _).1 (
      (at_most_iff _ _).1 v.low,
      (and_iff _ _).1
          ((and_iff _ _).1 ((at_most_iff _ _).1 v.first, (at_most_iff _ _).1 v.last), (and_iff _ _).1 ((at_most_iff _ _).1 v.from, (at_most_iff _ _).1 v.to)),
    )

pub exists_is : (t : Date) → exists t ≡ true → (t.year ≤ 2199) × Dated t
unfolding exists
exists_is t e = let (year, rest) = (and_iff _ _).0 e in ((at_most_iff _ _).0 year, dated_is t rest)

pub exists_by : (t : Date) → t.year ≤ 2199 → Dated t → exists t ≡ true
unfolding exists
exists_by t l v = (and_iff _ _).1 ((at_most_iff _ _).1 l, dated_by t v)

-- the tests as code makes them
module _ (t : Date) where
  abbrev pub year_in : Bool
  year_in = at_most 2000 t.year and at_most t.year 2199

  abbrev pub month_in : Bool
  month_in = at_most 1 t.month and at_most t.month 12

  abbrev pub day_in : Bool
  day_in = at_most 1 t.day and at_most t.day (days_of_month t.year t.month)

  pub exists_if : {r : Bool} → year_in ≡ true → month_in ≡ true → r ≡ day_in → r ≡ exists t
  unfolding exists dated
  exists_if y m d = let (a, b) = (and_iff _ _).0 y in and_go _ _ b (and_go _ _ a (and_go _ _ m d))

  pub exists_not : (year_in ≡ true → month_in ≡ false) → false ≡ exists t
  exists_not h = sym (refuted _ (λ e.
      let (high, v) = exists_is t e in
      never ((and_iff _ _).1 ((at_most_iff _ _).1 v.first, (at_most_iff _ _).1 v.last))
      (h ((and_iff _ _).1 ((at_most_iff _ _).1 v.low, (at_most_iff _ _).1 high)))))

-- ---- sums of days grow

pub years_up : (n m : ℕ) → n ≤ m → days_of_years n ≤ days_of_years m
unfolding days_of_years
years_up n m l = sum_up (λ y. days_of_year (2000 + y)) n m l

pub months_up : (year n m : ℕ) → n ≤ m → days_of_months year n ≤ days_of_months year m
unfolding days_of_months
months_up year n m l = sum_up (λ j. days_of_month year (j + 1)) n m l

-- ---- a date is a day of its month, of its year and of all years

-- the day of the year, the first being 0
unfoldable pub day_of_year : Date → ℕ
day_of_year t = days_of_months t.year (t.month - 1) + (t.day - 1)

pub day_of_month : (t : Date) → Dated t → day_of_year t < days_of_months t.year t.month
unfolding day_of_year days_of_months
day_of_month t v =
    let f : ℕ → ℕ = λ m. days_of_month t.year (m + 1) in
    let back : (t.month - 1) + 1 ≡ t.month = omega (arith, v.first) in
    omega (arith, v.from, v.to, sum_part f (t.month - 1) t.month (omega (arith, v.first)), ap (days_of_month t.year) back)

pub day_of_year_lem : (t : Date) → Dated t → day_of_year t < days_of_year t.year
unfolding days_of_year
day_of_year_lem t v = omega (arith, day_of_month t v, months_up t.year t.month 12 v.last)

pub number_is : (t : Date) → day_number t ≡ days_of_years (t.year - 2000) + day_of_year t
unfolding day_number day_of_year
number_is t = refl

pub number_below : (t : Date) → Dated t → (years : ℕ) → t.year < 2000 + years → day_number t < days_of_years years
unfolding days_of_years
number_below t v years l =
    let f : ℕ → ℕ = λ y. days_of_year (2000 + y) in
    let back : 2000 + (t.year - 2000) ≡ t.year = omega (arith, v.low) in
    omega (arith, number_is t, day_of_year_lem t v, sum_part f (t.year - 2000) years (omega (arith, v.low)), ap days_of_year back)

-- 200 years have 73,049 days
pub all_days : days_of_years 200 ≡ 73049
all_days = sym (years_days 200 (omega arith))

pub exists_below : (t : Date) → exists t ≡ true → day_number t < 73049
exists_below t e = let (l, v) = exists_is t e in omega (arith, number_below t v 200 (omega arith), all_days)

-- as code adds it up
pub number_sum : (t : Date) {x y : ℕ} → x ≡ days_of_years (t.year - 2000) → y ≡ days_of_months t.year (t.month - 1) → x + (y + (t.day - 1)) ≡ day_number t
unfolding day_number
number_sum t p q = ap₂ (λ (x y : ℕ). x + (y + (t.day - 1))) p q

-- ---- day numbers and dates rise together

-- lengths are at most what two digits have room for
month_test : Bool → ℕ → Bool
month_test b m = at_most (item (months b) m) 31

all_months : (b : Bool) → every (month_test b) 12 ≡ true
unfolding every ◌and◌ at_most months month_test
all_months true = refl
all_months false = refl

pub day_most : (t : Date) → Dated t → t.day ≤ 31
unfolding days_of_month month_test
day_most t v =
    let b = leap t.year in
    let few = (every_iff (month_test b) 12).0 (all_months b) (t.month - 1) (omega (arith, v.first, v.last)) in
    omega (arith, v.to, (at_most_iff (item (months b) (t.month - 1)) 31).0 few)

date : ℕ → ℕ → ℕ → Date
date year month day = record { year = year; month = month; day = day }

-- the order of dates: by year, month and day
abbrev pub Earlier : Date → Date → Type 0
Earlier a b = (a.year < b.year) ⊎ ((a.year ≡ b.year) × ((a.month < b.month) ⊎ ((a.month ≡ b.month) × (a.day < b.day))))

module _ (a b : Date) (v : Dated a) (w : Dated b) where
  earlier_number : number_of a < number_of b → Earlier a b
  unfolding number_of
  earlier_number l = years (dec_lt a.year b.year) (ℕ_discrete a.year b.year) (dec_lt a.month b.month) (ℕ_discrete a.month b.month)
    where
      bounds : ((a.month ≤ 12) × (a.day ≤ 31)) × ((b.month ≤ 12) × (b.day ≤ 31))
      bounds = ((v.last, day_most a v), (w.last, day_most b w))

      years : Dec (a.year < b.year) → Dec (a.year ≡ b.year) → Dec (a.month < b.month) → Dec (a.month ≡ b.month) → Earlier a b
      years (yes h) e m n = inl h
      years (no h) (no e) m n = absurd (omega (arith, bounds.0.0, bounds.0.1, bounds.1.0, bounds.1.1))
      years (no h) (yes e) (yes m) n = inr (e, inl m)
      years (no h) (yes e) (no m) (no n) = absurd (omega (arith, bounds.0.1, bounds.1.1))
      years (no h) (yes e) (no m) (yes n) = inr (e, inr (n, omega arith))

  day_earlier : Earlier a b → day_number a < day_number b
  unfolding day_number day_of_year
  day_earlier (inl h) =
      omega (arith, number_below a v (b.year - 2000) (omega (arith, w.low)))
  day_earlier (inr (e, inl h)) =
      omega (arith, day_of_month a v, ap (λ (y : ℕ). days_of_years (y - 2000)) e, ap (λ (y : ℕ). days_of_months y a.month) e, months_up b.year a.month (b.month - 1) (omega arith))
  day_earlier (inr (e, inr (n, h))) =
      omega (arith, v.from, ap (λ (y : ℕ). days_of_years (y - 2000)) e, ap₂ (λ (y m : ℕ). days_of_months y (m - 1)) e n)

  day_same : number_of a ≡ number_of b → a ≡ b
  unfolding number_of date
  day_same e =
      let year : a.year ≡ b.year = omega (arith, v.last, w.last, day_most a v, day_most b w) in
      let month : a.month ≡ b.month = omega (arith, day_most a v, day_most b w) in
      let day : a.day ≡ b.day = omega arith in
      let from : a ≡ date a.year a.month a.day = refl in
      let same : date a.year a.month a.day ≡ date b.year b.month b.day = cc in
      from ∙ same

-- a date's number says that date
pub number_says : (t : Date) → Dated t → date_in (number_of t) ≡ t
unfolding number_of date_in
number_says t v =
    let few = day_most t v in
    let year : (t.year * 10000 + (t.month * 100 + t.day)) / 10000 ≡ t.year = omega (arith, v.last) in
    let month : (t.year * 10000 + (t.month * 100 + t.day)) / 100 % 100 ≡ t.month = omega (arith, v.last) in
    let day : (t.year * 10000 + (t.month * 100 + t.day)) % 100 ≡ t.day = omega arith in
    rw (year, month, day)

-- "rise together"
pub rise_together : (a b : Date) → Dated a → Dated b → (number_of a < number_of b) ↔ (day_number a < day_number b)
rise_together a b v w = (λ l. day_earlier a b v w (earlier_number a b v w l), λ l. back l (dec_lt (number_of a) (number_of b)) (ℕ_discrete (number_of a) (number_of b)))
  where
    back : day_number a < day_number b → Dec (number_of a < number_of b) → Dec (number_of a ≡ number_of b) → number_of a < number_of b
    back l (yes h) e = h
    back l (no h) (yes e) = absurd (omega (arith, ap day_number (day_same a b v w e)))
    back l (no h) (no e) = absurd (omega (arith, day_earlier b a w v (earlier_number b a w v (omega arith))))

-- "correspond one to one"
pub one_date : (a b : Date) → Dated a → Dated b → day_number a ≡ day_number b → a ≡ b
one_date a b v w e = go (dec_lt (number_of a) (number_of b)) (ℕ_discrete (number_of a) (number_of b))
  where
    go : Dec (number_of a < number_of b) → Dec (number_of a ≡ number_of b) → a ≡ b
    go (yes h) n = absurd (omega (arith, (rise_together a b v w).0 h))
    go (no h) (yes n) = day_same a b v w n
    go (no h) (no n) = absurd (omega (arith, (rise_together b a w v).0 (omega arith)))
