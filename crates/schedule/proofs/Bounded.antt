-- The windows of what is not refused are in the years 2000 to 2200.
use mathlib.Core.Path.{◌≡◌}
use mathlib.Core.Bool.{Bool}
use mathlib.Core.List.{List}
use Prim.Native.Nat.{ℕ, ◌<◌}
use native.Mathlib.Omega.{arith}
use Rattle.schedule.specs.Dates.{day_number}
use Rattle.schedule.specs.Working.{working}
use Rattle.schedule.specs.Windows.{days_after, minute_of, window, windows_on, windows, schedule_refusal}
use Rattle.schedule.specs.Told.{SmallWindows}
use Rattle.schedule.specs.declared.Date.{Date}
use Rattle.schedule.specs.declared.Days.{Days}
use Rattle.schedule.proofs.Dating.{exists_below}
use Rattle.schedule.proofs.Planning.{Plan, plan_is}
use Rattle.schedule.proofs.Ordered.{fit, ending}

small_on : (works : ℕ → Bool) (d : ℕ) (s : Days) → d < 73049 → Plan works d s → SmallWindows (windows_on d s)
unfolding windows_on window minute_of
small_on works d s l p =
    let next : s.next < 73053 = omega (arith, p.next.near) in
    let first : s.first < 73056 = omega (arith, p.first.near) in
    let second : s.second < 73059 = omega (arith, p.second.near) in
    let last : s.last < 73075 = omega (arith, p.last.near) in
    let after : s.second < s.last = omega (arith, p.last.above) in
    record {
      polling = record { low = omega arith; high = omega arith; order = omega arith };
      first = record { low = omega arith; high = omega arith; order = omega arith };
      second = record { low = omega arith; high = omega arith; order = omega arith };
      objections = record { low = omega arith; high = omega arith; order = omega arith };
    }

pub windows_small : (election : Date) (holidays : List ℕ) → schedule_refusal election holidays ≡ 0 → SmallWindows (windows election holidays)
unfolding windows
windows_small election holidays e =
    let f = (fit election holidays).0 e in
    let d = day_number election in
    small_on (working holidays) d (days_after (working holidays) d) (exists_below election f.election_exists) (plan_is (working holidays) (ending holidays f.in_turn) d)
