-- The pass over the holidays: what is known behind the first i of them.
use mathlib.Core.Path.{◌≡◌, refl, sym, ap, ◌∙◌}
use mathlib.Core.Logic.{◌≢◌}
use mathlib.Core.Bool.{Bool, true, false}
use mathlib.Core.List.{List}
use Prim.Native.Nat.{ℕ, zero, suc, ◌+◌, ◌-◌, ◌≤◌, ◌<◌}
use native.Mathlib.Numerals.{add-one}
use native.Mathlib.Omega.{arith}
use lib.ListN.{length}
use Rattle.laws.specs.Tests.{below, ◌and◌, every, is_equal, not_equal, is_below, not_below, is_differ, not_differ}
use Rattle.laws.specs.Tests.{and_iff, and_go, and_stop, and_last, and_last_stop, or_go, or_stop, every_more, every_stop}
use Rattle.std.specs.Prelude.{Ok, Err}
use Rattle.protocol.specs.declared.Rule.TheVariants.{Day}
use Rattle.protocol.specs.Terms.{item}
use Rattle.schedule.specs.Dates.{exists, date_in}
use Rattle.schedule.specs.Working.{weekday, holiday, working_but, working}
use Rattle.schedule.specs.Windows.{in_turn, days_after}
use Rattle.schedule.specs.Told.{from_next, weekday_from, moved, planned_on}
use Rattle.schedule.specs.declared.Days.{Days}
use Rattle.schedule.proofs.Dating.{exists_below}
use Rattle.schedule.proofs.Planning.{Plan, Clear, More, plan_more, plan_found, next_clear, next_plan}

module _ (holidays : List ℕ) where
  -- the least day that holiday i may have: the one after the holiday before it
  unfoldable pub least_at : ℕ → ℕ
  least_at zero = 0
  least_at (suc i) = suc (holiday holidays i)

  -- behind the first i holidays: they are in turn, the days are right for them, and none is at the least day of the next one or later
  pub record Passed (d : ℕ) (s : Days) (least i : ℕ) : Type 0 where
    pub within : i ≤ length holidays
    pub turn : every (in_turn holidays) i ≡ true
    pub plan : Plan (working_but holidays i) d s
    pub low : least ≡ least_at i
    pub clear : Clear (working_but holidays i) least

  -- ---- the order

  in_turn_lem : (i : ℕ) → exists (date_in (item holidays i)) ≡ true → least_at i ≤ holiday holidays i → in_turn holidays i ≡ true
  unfolding in_turn least_at
  in_turn_lem zero e l = (and_iff _ _).1 (e, sym (or_stop _ _ (is_equal refl)))
  in_turn_lem (suc i) e l =
      let back : suc i - 1 ≡ i = omega arith in
      (and_iff _ _).1 (e, sym (or_go _ _ (not_equal (λ z. omega arith)) (sym (rw back (is_below l)))))

  missing : (i : ℕ) → exists (date_in (item holidays i)) ≡ false → in_turn holidays i ≡ false
  unfolding in_turn
  missing i e = sym (and_stop _ _ e)

  late : (i : ℕ) → exists (date_in (item holidays i)) ≡ true → holiday holidays i < least_at i → in_turn holidays i ≡ false
  unfolding in_turn least_at
  late zero e l = absurd (omega arith)
  late (suc i) e l =
      let back : suc i - 1 ≡ i = omega arith in
      sym (and_go _ _ e (or_go _ _ (not_equal (λ z. omega arith)) (sym (rw back (not_below {a = holiday holidays i} (omega arith))))))

  -- ---- the pass

  pub none_passed : (d : ℕ) → Passed d (from_next (weekday_from (d + 1))) 0 0
  unfolding every working_but least_at
  none_passed d = record {
    within = omega arith;
    turn = refl;
    plan = next_plan (working_but holidays 0) 0 clear d (weekday_from (d + 1)) (next_clear (working_but holidays 0) 0 clear d (omega arith)) (omega arith);
    low = refl;
    clear = clear;
  }
    where
      clear : Clear (working_but holidays 0) 0
      clear x l = sym (and_last _ _ refl)

  same_but : (i d : ℕ) → d ≢ holiday holidays i → working_but holidays (suc i) d ≡ working_but holidays i d
  unfolding working_but every
  same_but i d ne = ap (λ (b : Bool). below (weekday d) 5 and b) (sym (and_last _ _ (is_differ (λ e. ne (sym e)))))

  none_at : (i : ℕ) → working_but holidays (suc i) (holiday holidays i) ≡ false
  unfolding working_but every
  none_at i = sym (and_last_stop _ _ (sym (and_last_stop _ _ (not_differ refl))))

  more : (i : ℕ) → exists (date_in (item holidays i)) ≡ true → Clear (working_but holidays i) (least_at i) → least_at i ≤ holiday holidays i
      → More (working_but holidays i) (working_but holidays (suc i)) (holiday holidays i)
  unfolding holiday
  more i e clear l = record {
    is = none_at i;
    others = λ d ne. same_but i d ne;
    clear = λ d o. same_but i d (λ z. omega arith) ∙ clear d (omega arith);
    small = exists_below (date_in (item holidays i)) e;
  }

  pub one_passed : (d : ℕ) {s : Days} {least i h : ℕ} → Passed d s least i → i < length holidays → exists (date_in (item holidays i)) ≡ true
      → h ≡ holiday holidays i → least ≤ h → Passed d (moved s h) (h + 1) (i + 1)
  unfolding least_at
  one_passed d {s} {least} {i} {h} p l e same o =
      let low : least_at i ≤ holiday holidays i = omega (arith, p.low) in
      let m = more i e (rw (sym p.low) p.clear) low in
      let turn = every_more (in_turn holidays) i p.turn (in_turn_lem i e low) in
      rw same
      (record {
        within = omega arith;
        turn = turn;
        plan = rw (add-one i) (plan_more (working_but holidays i) (working_but holidays (suc i)) (holiday holidays i) m d s p.plan);
        low = rw (add-one i) (add-one _);
        clear = rw (add-one i) (λ x k. m.clear x (omega arith));
      })

  -- ---- what is answered

  pub refused_missing : (d i : ℕ) → i < length holidays → exists (date_in (item holidays i)) ≡ false → Err Day ≡ planned_on d holidays
  unfolding planned_on
  refused_missing d i l e = rw (sym (every_stop (in_turn holidays) (length holidays) i l (missing i e)))

  pub refused_late : (d : ℕ) {s : Days} {least i h : ℕ} → Passed d s least i → i < length holidays → exists (date_in (item holidays i)) ≡ true
      → h ≡ holiday holidays i → h < least → Err Day ≡ planned_on d holidays
  unfolding planned_on
  refused_late d {s} {least} {i} {h} p l e same o =
      rw (sym (every_stop (in_turn holidays) (length holidays) i l (late i e (omega (arith, p.low)))))

  pub all_passed : (d : ℕ) {s : Days} {least i : ℕ} → Passed d s least i → i ≡ length holidays → Ok s ≡ planned_on d holidays
  unfolding planned_on working
  all_passed d {s} {least} {i} p e =
      let turn : every (in_turn holidays) (length holidays) ≡ true = rw (sym e) p.turn in
      let found : s ≡ days_after (working_but holidays (length holidays)) d = rw (sym e) (plan_found (working_but holidays i) d s p.plan) in
      rw turn (ap Ok found)
