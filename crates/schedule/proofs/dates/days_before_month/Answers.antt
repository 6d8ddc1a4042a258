-- `schedule::dates::days_before_month` meets its contract.
use mathlib.Core.Path.{ap, ◌∙◌}
use Prim.Native.Nat.{ℕ, ◌+◌, ◌-◌, ◌*◌, ◌/◌}
use native.Mathlib.Omega.{arith}
use Rattle.schedule.proofs.Lengths.{early_days, late_days}
use Rattle.schedule.proofs.dates.days_before_month.Goals as goal

pub returns-then-month-lt3 : goal.returns-then-month-lt3
returns-then-month-lt3 c = (early_days _ _ (omega arith) (omega arith), omega arith)

pub returns-else-month-lt3 : goal.returns-else-month-lt3
returns-else-month-lt3 c =
    let leap = c.leap_day.ensures in
    let month = c.args.month in
    (ap (λ (x : ℕ). (367 * month - 386) / 12 + x) leap.0 ∙ late_days _ _ (omega arith) (omega arith), omega (arith, leap.1))
