-- `schedule::dates::days_of_month` meets its contract.
use mathlib.Core.Path.{sym, ap, ◌∙◌}
use Prim.Native.Nat.{ℕ, ◌+◌}
use native.Mathlib.Omega.{arith}
use Rattle.schedule.specs.Dates.{days_of_month}
use Rattle.schedule.proofs.Lengths.{month_days, february_days}
use Rattle.schedule.proofs.dates.days_of_month.Goals as goal

pub returns-then-month-eq2 : goal.returns-then-month-eq2
returns-then-month-eq2 c =
    (ap (λ (x : ℕ). 28 + x) c.leap_day.ensures.0 ∙ february_days _ ∙ ap (days_of_month _) (sym c.if-month-eq2.true), omega (arith, c.leap_day.ensures.1))

pub returns-else-month-eq2 : goal.returns-else-month-eq2
returns-else-month-eq2 c = (month_days _ _ (omega arith) (omega arith) c.if-month-eq2.false, omega arith)
