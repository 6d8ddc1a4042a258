-- Document 02, item 7: a list of holidays that rises has at most 73,049, so that a longer one is refused whatever is in it.
use mathlib.Core.Path.{◌≡◌, sym, ap}
use mathlib.Core.Bool.{true}
use mathlib.Core.List.{List}
use Prim.Native.Nat.{ℕ, zero, suc, ◌-◌, ◌≤◌, ◌<◌}
use native.Mathlib.Omega.{arith}
use lib.ListN.{length}
use Rattle.laws.specs.Tests.{every, refuted, not_equal, and_iff, or_iff, below_iff, every_iff, and_last_stop}
use Rattle.laws.specs.Faults.{rule_stop}
use Rattle.schedule.specs.Working.{holiday}
use Rattle.schedule.specs.Windows.{in_turn, schedule_refusal}
use Rattle.schedule.specs.declared.Date.{Date}
use Rattle.schedule.proofs.Ordered.{holiday_below}

rises : (holidays : List ℕ) (i : ℕ) → in_turn holidays (suc i) ≡ true → holiday holidays i < holiday holidays (suc i)
unfolding in_turn
rises holidays i e =
    let back : suc i - 1 ≡ i = omega arith in
    let after = (or_iff _ _).0 ((and_iff _ _).0 e).1 (not_equal {a = suc i} {b = 0} (λ z. omega arith)) in
    omega (arith, (below_iff _ _).0 after, ap (holiday holidays) back)

-- holiday i is not before day i
late : (holidays : List ℕ) (i : ℕ) → ((j : ℕ) → j ≤ i → in_turn holidays j ≡ true) → i ≤ holiday holidays i
late holidays zero h = omega arith
late holidays (suc i) h = omega (arith, late holidays i (λ j l. h j (omega arith)), rises holidays i (h (suc i) (omega arith)))

pub crowded : (election : Date) (holidays : List ℕ) → 73049 < length holidays → schedule_refusal election holidays ≡ 22
unfolding schedule_refusal
crowded election holidays l =
    let broken = refuted (every (in_turn holidays) (length holidays)) (λ t. absurd (too_late ((every_iff _ _).0 t))) in
    sym (rule_stop 22 _ _ (sym (and_last_stop _ _ broken)))
  where
    too_late : ((j : ℕ) → j < length holidays → in_turn holidays j ≡ true) → ⊥
    too_late h = omega (arith, late holidays 73049 (λ j k. h j (omega arith)), holiday_below holidays 73049 (h 73049 l))
