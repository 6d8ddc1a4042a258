-- Document 02, item 7: the windows come in order, on the days and hours that are named, and no minute is in two of them.
use mathlib.Core.Path.{◌≡◌, refl, sym, ◌∙◌}
use mathlib.Core.Logic.{◌↔◌}
use mathlib.Core.Bool.{Bool, true, false}
use mathlib.Core.List.{List}
use Prim.Native.Nat.{ℕ, zero, suc, ◌+◌, ◌-◌, ◌*◌, ◌/◌, ◌%◌, ◌≤◌, ◌<◌}
use native.Mathlib.Decide.{ℕ_discrete}
use native.Mathlib.Omega.{arith}
use lib.ListN.{length}
use Rattle.laws.specs.Tests.{pick, refuted, is_below, is_differ, and_iff, at_most_iff, below_iff, every_iff}
use Rattle.laws.specs.Faults.{rule_kept}
use Rattle.protocol.specs.Terms.{item}
use Rattle.schedule.specs.Dates.{exists, date_in, day_number}
use Rattle.schedule.specs.Working.{holiday, working, working_but}
use Rattle.schedule.specs.Windows.{in_turn, days_after, minute_of, window, windows_on, windows, inside, window_of, schedule_refusal}
use Rattle.schedule.specs.declared.Date.{Date}
use Rattle.schedule.specs.declared.Days.{Days}
use Rattle.schedule.specs.declared.Window.{Window}
use Rattle.schedule.specs.declared.Windows.{Windows}
use Rattle.schedule.proofs.Dating.{exists_below}
use Rattle.schedule.proofs.Counting.{Ending, Next, Kth, kth_steps}
use Rattle.schedule.proofs.Planning.{Plan, plan_is}

-- ---- what is not refused

-- the election's date exists, and so does each holiday's, each after the one before
pub record Fit (election : Date) (holidays : List ℕ) : Type 0 where
  pub election_exists : exists election ≡ true
  pub in_turn : (i : ℕ) → i < length holidays → in_turn holidays i ≡ true

pub fit : (election : Date) (holidays : List ℕ) → (schedule_refusal election holidays ≡ 0) ↔ Fit election holidays
unfolding schedule_refusal
fit election holidays = (to, from)
  where
    to : schedule_refusal election holidays ≡ 0 → Fit election holidays
    to e =
        let (t, k) = (rule_kept 22 _ _ refl).0 e in
        let (a, b) = (and_iff _ _).0 t in
        record { election_exists = a; in_turn = (every_iff _ _).0 b }

    from : Fit election holidays → schedule_refusal election holidays ≡ 0
    from f = (rule_kept 22 _ _ refl).1 ((and_iff _ _).1 (f.election_exists, (every_iff _ _).1 f.in_turn), refl)

pub holiday_below : (holidays : List ℕ) (i : ℕ) → in_turn holidays i ≡ true → holiday holidays i < 73049
unfolding in_turn holiday
holiday_below holidays i e = exists_below (date_in (item holidays i)) ((and_iff _ _).0 e).0

-- behind 2199 there are weekends and no holidays
pub ending : (holidays : List ℕ) → ((i : ℕ) → i < length holidays → in_turn holidays i ≡ true) → Ending (working holidays)
unfolding working working_but
ending holidays h = record {
  late = λ d o w. (and_iff _ _).1 (is_below w, (every_iff _ _).1 (λ i l. is_differ (λ e. omega (arith, holiday_below holidays i (h i l)))));
}

-- ---- the days and hours

-- of windows w, for an election on day d and working days as given
pub record Named (works : ℕ → Bool) (d : ℕ) (w : Windows) : Type 0 where
  -- "Polling is 08:00 to 20:00 on that day."
  pub polling_day : w.polling.start / 1440 ≡ d
  pub polling_from : w.polling.start % 1440 ≡ 8 * 60
  pub polling_to : w.polling.end ≡ w.polling.start + 12 * 60
  -- "First dice are 10:00 to 12:00 on the second working day after it"
  pub first_day : works (w.first.start / 1440) ≡ true
  pub first_second : Kth works 2 d (w.first.start / 1440)
  pub first_from : w.first.start % 1440 ≡ 10 * 60
  pub first_to : w.first.end ≡ w.first.start + 2 * 60
  -- "second dice the same hours one working day later"
  pub second_day : Next works (w.first.start / 1440) (w.second.start / 1440)
  pub second_from : w.second.start % 1440 ≡ 10 * 60
  pub second_to : w.second.end ≡ w.second.start + 2 * 60
  -- "Objections run from 12:00 of the second dice's day to 24:00 of the fourteenth day after it, or of the next working day if that one is none."
  pub objections_from : w.objections.start ≡ w.second.end
  pub objections_to : w.objections.end % 1440 ≡ 0
  pub objections_day : Next works (w.second.start / 1440 + 13) (w.objections.end / 1440 - 1)

named_on : (works : ℕ → Bool) (d : ℕ) (s : Days) → Plan works d s → Named works d (windows_on d s)
unfolding windows_on window minute_of
named_on works d s p =
    let polling : (d * 1440 + 8 * 60) / 1440 ≡ d = omega arith in
    let first : (s.first * 1440 + 10 * 60) / 1440 ≡ s.first = omega arith in
    let second : (s.second * 1440 + 10 * 60) / 1440 ≡ s.second = omega arith in
    let last : (s.last * 1440 + 24 * 60) / 1440 - 1 ≡ s.last = omega arith in
    record {
      polling_day = polling;
      polling_from = omega arith;
      polling_to = omega arith;
      first_day = rw first p.first.is;
      first_second = rw first (kth_steps works 2 d s.first (s.next, (d, refl, p.next), p.first));
      first_from = omega arith;
      first_to = omega arith;
      second_day = rw (first, second) p.second;
      second_from = omega arith;
      second_to = omega arith;
      objections_from = omega arith;
      objections_to = omega arith;
      objections_day = rw (second, last) p.last;
    }

pub named : (election : Date) (holidays : List ℕ) → schedule_refusal election holidays ≡ 0
    → Named (working holidays) (day_number election) (windows election holidays)
unfolding windows
named election holidays e =
    let f = (fit election holidays).0 e in
    let d = day_number election in
    named_on (working holidays) d (days_after (working holidays) d) (plan_is (working holidays) (ending holidays f.in_turn) d)

-- ---- one behind the other

-- window k, from 1 to 4
unfoldable pub numbered : Windows → ℕ → Window
numbered w zero = w.polling
numbered w (suc zero) = w.polling
numbered w (suc (suc zero)) = w.first
numbered w (suc (suc (suc zero))) = w.second
numbered w (suc (suc (suc (suc k)))) = w.objections

-- each starts before its end, and ends before the next starts, or when it starts
pub record InOrder (w : Windows) : Type 0 where
  pub polling : w.polling.start < w.polling.end
  pub to_first : w.polling.end ≤ w.first.start
  pub first : w.first.start < w.first.end
  pub to_second : w.first.end ≤ w.second.start
  pub second : w.second.start < w.second.end
  pub to_objections : w.second.end ≤ w.objections.start
  pub objections : w.objections.start < w.objections.end

in_order_on : (works : ℕ → Bool) (d : ℕ) (s : Days) → Plan works d s → InOrder (windows_on d s)
unfolding windows_on window minute_of
in_order_on works d s p =
    let a : d < s.next = p.next.above in
    let b : s.next < s.first = p.first.above in
    let c : s.first < s.second = p.second.above in
    let e : s.second + 13 < s.last = p.last.above in
    record {
      polling = omega arith;
      to_first = omega arith;
      first = omega arith;
      to_second = omega arith;
      second = omega arith;
      to_objections = omega arith;
      objections = omega arith;
    }

pub in_order : (election : Date) (holidays : List ℕ) → schedule_refusal election holidays ≡ 0 → InOrder (windows election holidays)
unfolding windows
in_order election holidays e =
    let f = (fit election holidays).0 e in
    let d = day_number election in
    in_order_on (working holidays) d (days_after (working holidays) d) (plan_is (working holidays) (ending holidays f.in_turn) d)

-- ---- a minute's answer is by the windows

-- a minute of a window
pub record In (w : Window) (m : ℕ) : Type 0 where
  pub from : w.start ≤ m
  pub to : m < w.end

in_is : (w : Window) (m : ℕ) → inside w m ≡ true → In w m
unfolding inside
in_is w m e = let (a, b) = (and_iff _ _).0 e in record { from = (at_most_iff _ _).0 a; to = (below_iff _ _).0 b }

in_by : (w : Window) (m : ℕ) → In w m → inside w m ≡ true
unfolding inside
in_by w m i = (and_iff _ _).1 ((at_most_iff _ _).1 i.from, (below_iff _ _).1 i.to)

out_by : (w : Window) (m : ℕ) → (In w m → ⊥) → inside w m ≡ false
out_by w m out = refuted (inside w m) (λ e. out (in_is w m e))

-- the answer names a window that the minute is in
pub answer_in : (w : Windows) (m k : ℕ) → window_of w m ≡ k → 1 ≤ k → (k ≤ 4) × In (numbered w k) m
unfolding window_of numbered
answer_in w m k e low = go (inside w.polling m) (inside w.first m) (inside w.second m) (inside w.objections m) refl refl refl refl e
  where
    go : (p f s o : Bool) → inside w.polling m ≡ p → inside w.first m ≡ f → inside w.second m ≡ s → inside w.objections m ≡ o
        → pick p 1 (pick f 2 (pick s 3 (pick o 4 0))) ≡ k → (k ≤ 4) × In (numbered w k) m
    go true f s o a b c d e = (omega arith, rw (sym e) (in_is w.polling m a))
    go false true s o a b c d e = (omega arith, rw (sym e) (in_is w.first m b))
    go false false true o a b c d e = (omega arith, rw (sym e) (in_is w.second m c))
    go false false false true a b c d e = (omega arith, rw (sym e) (in_is w.objections m d))
    go false false false false a b c d e = absurd (omega arith)

-- a minute that is in a window is answered by it
pub in_answer : (w : Windows) (m k : ℕ) → InOrder w → 1 ≤ k → k ≤ 4 → In (numbered w k) m → window_of w m ≡ k
unfolding window_of numbered
in_answer w m zero o low high i = absurd (omega arith)
in_answer w m (suc zero) o low high i = rw (in_by w.polling m i)
in_answer w m (suc (suc zero)) o low high i = rw (out_by w.polling m (λ p. omega (arith, p.to, i.from, o.to_first)), in_by w.first m i)
in_answer w m (suc (suc (suc zero))) o low high i = rw (
  out_by w.polling m (λ p. omega (arith, p.to, i.from, o.to_first, o.first, o.to_second)),
  out_by w.first m (λ p. omega (arith, p.to, i.from, o.to_second)),
  in_by w.second m i,
)
in_answer w m (suc (suc (suc (suc k)))) o low high i =
    let four : suc (suc (suc (suc k))) ≡ 4 = omega arith in
    rw (
      four,
      out_by w.polling m (λ p. omega (arith, p.to, i.from, o.to_first, o.first, o.to_second, o.second, o.to_objections)),
      out_by w.first m (λ p. omega (arith, p.to, i.from, o.to_second, o.second, o.to_objections)),
      out_by w.second m (λ p. omega (arith, p.to, i.from, o.to_objections)),
      in_by w.objections m i,
    )

-- so no minute is in two windows
pub apart : (w : Windows) (m j k : ℕ) → InOrder w → 1 ≤ j → j ≤ 4 → In (numbered w j) m → 1 ≤ k → k ≤ 4 → In (numbered w k) m → j ≡ k
apart w m j k o a b i c d l = sym (in_answer w m j o a b i) ∙ in_answer w m k o c d l

-- .. and one is answered by none exactly if it is in none
pub none_answered : (w : Windows) (m : ℕ) → InOrder w → (window_of w m ≡ 0) ↔ ((k : ℕ) → 1 ≤ k → k ≤ 4 → In (numbered w k) m → ⊥)
none_answered w m o = (λ e k a b i. omega (arith, in_answer w m k o a b i), λ out. go (ℕ_discrete (window_of w m) 0) out)
  where
    go : Dec (window_of w m ≡ 0) → ((k : ℕ) → 1 ≤ k → k ≤ 4 → In (numbered w k) m → ⊥) → window_of w m ≡ 0
    go (yes e) out = e
    go (no ne) out =
        let low : 1 ≤ window_of w m = omega arith in
        let (high, i) = answer_in w m (window_of w m) refl low in
        absurd (out (window_of w m) low high i)
