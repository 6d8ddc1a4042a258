-- The lengths of months and years, as code works them out. What holds of each month, and of each year, is tried on all of them.
use mathlib.Core.Path.{◌≡◌, refl, ap, ◌∙◌}
use mathlib.Core.Logic.{◌≢◌}
use mathlib.Core.Bool.{Bool, true, false}
use Prim.Native.Nat.{ℕ, zero, suc, ◌+◌, ◌-◌, ◌*◌, ◌/◌, ◌%◌, ◌≤◌, ◌<◌}
use native.Mathlib.Omega.{arith}
use Rattle.laws.specs.Tests.{equal, differ, ◌and◌, ◌or◌, every, equal_iff, or_iff, every_iff, not_equal}
use Rattle.laws.specs.Sums.{sum, one_if}
use Rattle.protocol.specs.Terms.{item}
use Rattle.schedule.specs.Dates.{leap, months, days_of_month, days_of_months, days_of_year, days_of_years}

-- ---- months

-- February apart
month_test : Bool → ℕ → Bool
month_test b m = equal m 1 or equal (30 + ((m + 1) + (m + 1) / 8) % 2) (item (months b) m)

all_months : (b : Bool) → every (month_test b) 12 ≡ true
unfolding every ◌or◌ ◌and◌ equal months month_test
all_months true = refl
all_months false = refl

pub month_days : (year month : ℕ) → 1 ≤ month → month ≤ 12 → month ≢ 2 → 30 + (month + month / 8) % 2 ≡ days_of_month year month
unfolding days_of_month month_test
month_days year month low high ne =
    let back : month ≡ (month - 1) + 1 = omega arith in
    let b = leap year in
    let t : month_test b (month - 1) ≡ true = (every_iff (month_test b) 12).0 (all_months b) (month - 1) (omega arith) in
    ap (λ (x : ℕ). 30 + (x + x / 8) % 2) back ∙ (equal_iff _ _).0 ((or_iff _ _).0 t (not_equal (λ e. ne (omega arith))))

february : (b : Bool) → 28 + one_if b ≡ item (months b) 1
unfolding months
february true = refl
february false = refl

pub february_days : (year : ℕ) → 28 + one_if (leap year) ≡ days_of_month year 2
unfolding days_of_month
february_days year = february (leap year)

-- the days of the first m months
before : Bool → ℕ → ℕ
before b m = sum (λ j. item (months b) ((j + 1) - 1)) m

early_test : Bool → ℕ → Bool
early_test b m = equal (31 * m) (before b m)

late_test : Bool → ℕ → Bool
late_test b m = equal ((367 * (m + 3) - 386) / 12 + one_if b) (before b (m + 2))

all_early : (b : Bool) → every (early_test b) 2 ≡ true
unfolding every ◌and◌ equal months early_test before
all_early true = refl
all_early false = refl

all_late : (b : Bool) → every (late_test b) 10 ≡ true
unfolding every ◌and◌ equal months late_test before
all_late true = refl
all_late false = refl

pub early_days : (year month : ℕ) → 1 ≤ month → month < 3 → 31 * (month - 1) ≡ days_of_months year (month - 1)
unfolding days_of_months days_of_month early_test before
early_days year month low high =
    let b = leap year in
    (equal_iff _ _).0 ((every_iff (early_test b) 2).0 (all_early b) (month - 1) (omega arith))

pub late_days : (year month : ℕ) → 3 ≤ month → month ≤ 12 → (367 * month - 386) / 12 + one_if (leap year) ≡ days_of_months year (month - 1)
unfolding days_of_months days_of_month late_test before
late_days year month low high =
    let b = leap year in
    let three : month ≡ (month - 3) + 3 = omega arith in
    let two : (month - 3) + 2 ≡ month - 1 = omega arith in
    ap (λ (x : ℕ). (367 * x - 386) / 12 + one_if b) three
    ∙ (equal_iff _ _).0 ((every_iff (late_test b) 10).0 (all_late b) (month - 3) (omega arith))
    ∙ ap (before b) two

-- ---- years

-- the days of y years from 2000 on
abbrev pub closed : ℕ → ℕ
closed y = ((y * 365 + (y + 3) / 4) + (y + 399) / 400) - (y + 99) / 100

year_test : ℕ → Bool
year_test y = equal (closed y + days_of_year (2000 + y)) (closed (y + 1))

all_years : every year_test 201 ≡ true
unfolding every ◌and◌ ◌or◌ equal differ leap months days_of_month days_of_months days_of_year year_test
all_years = refl

pub years_days : (y : ℕ) → y ≤ 201 → closed y ≡ days_of_years y
unfolding days_of_years year_test
years_days zero l = refl
years_days (suc y) l =
    let t : closed y + days_of_year (2000 + y) ≡ closed (y + 1) = (equal_iff _ _).0 ((every_iff year_test 201).0 all_years y (omega arith)) in
    let one : closed (suc y) ≡ closed (y + 1) = ap closed (omega arith) in
    omega (arith, years_days y (omega arith), t, one)

pub years_most : (y : ℕ) → y ≤ 201 → closed y ≤ 73414
years_most y l = omega arith
