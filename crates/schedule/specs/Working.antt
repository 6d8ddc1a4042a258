-- Document 02, item 7: working days.
use Rattle.std.specs.Prelude.{Bool, List, ℕ, suc, ◌+◌, ◌-◌, ◌*◌, ◌%◌, length}
use Rattle.laws.specs.Tests.{equal, differ, below, ◌and◌, every}
use Rattle.laws.specs.Sums.{sum, one_if}
use Rattle.protocol.specs.Terms.{item}
use Rattle.schedule.specs.Dates.{day_number, date_in, days_of_years, least}

-- 0 for Monday to 6 for Sunday; "2000-01-01 00:00, a Saturday"
unfoldable pub weekday : ℕ → ℕ
weekday d = (d + 5) % 7

-- the day of holiday i of a list
unfoldable pub holiday : List ℕ → ℕ → ℕ
holiday holidays i = day_number (date_in (item holidays i))

-- "Working days are Monday to Friday outside the list.", the list being the first n holidays
unfoldable pub working_but : List ℕ → ℕ → ℕ → Bool
working_but holidays n d = below (weekday d) 5 and every (λ i. differ (holiday holidays i) d) n

unfoldable pub working : List ℕ → ℕ → Bool
working holidays d = working_but holidays (length holidays) d

-- ---- counting, whichever days are working days

module _ (works : ℕ → Bool) where
  -- how many of the n days after day d are working days
  unfoldable pub working_after : ℕ → ℕ → ℕ
  working_after d n = sum (λ i. one_if (works (d + suc i))) n

  -- the k-th working day after day d: the least x such that the days after d up to x have k working days. No holiday is behind 2199, so
  -- that k weeks from there, or from d, have k working days at least: `kth_is` in proofs/Counting.antt
  unfoldable pub kth_after : ℕ → ℕ → ℕ
  kth_after k d = d + least (λ n. equal (working_after d n) k) ((days_of_years 200 - d) + 7 * k)
