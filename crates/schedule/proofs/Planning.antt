-- The days of the windows: what they are, and what they become with one holiday more, which is after all that there were.
use mathlib.Core.Path.{◌≡◌, refl, sym, ap, ◌∙◌}
use mathlib.Core.Logic.{◌≢◌}
use mathlib.Core.Bool.{Bool, true, false}
use Prim.Native.Nat.{ℕ, suc, ◌+◌, ◌-◌, ◌%◌, ◌≤◌, ◌<◌}
use native.Mathlib.Decide.{ℕ_discrete, dec_lt}
use native.Mathlib.Omega.{arith}
use Rattle.laws.specs.Tests.{equal, below, pick, never, is_equal, not_equal, is_below, not_below, below_iff}
use Rattle.schedule.specs.Working.{weekday, kth_after}
use Rattle.schedule.specs.Windows.{last_day, days_after}
use Rattle.schedule.specs.Told.{weekday_from, from_second, from_first, from_next, moved}
use Rattle.schedule.specs.declared.Days.{Days}
use Rattle.schedule.proofs.Counting.{Ending, Next, steps_found, next_is}

-- each of the days is the next working day after another one
pub record Plan (works : ℕ → Bool) (d : ℕ) (s : Days) : Type 0 where
  pub next : Next works d s.next
  pub first : Next works s.next s.first
  pub second : Next works s.first s.second
  pub last : Next works (s.second + 13) s.last

-- ---- these days are those of the definition

module _ (works : ℕ → Bool) where
  last_found : (second last : ℕ) → Next works (second + 13) last → last_day works second ≡ last
  unfolding last_day
  last_found second last h = go (works (second + 14)) refl (ℕ_discrete last (second + 14))
    where
      go : (b : Bool) → works (second + 14) ≡ b → Dec (last ≡ second + 14)
          → pick (works (second + 14)) (second + 14) (kth_after works 1 (second + 14)) ≡ last
      go true e (yes same) = rw e (sym same)
      go true e (no ne) = absurd (never e (h.none (second + 14) (omega arith) (omega (arith, h.above))))
      go false e (yes same) = absurd (never (ap works (sym same) ∙ h.is) e)
      go false e (no ne) = rw e (steps_found works 1 (second + 14) last (second + 14, refl, after))
        where
          after : Next works (second + 14) last
          after = record {
            above = omega (arith, h.above);
            is = h.is;
            none = λ y l m. h.none y (omega arith) m;
            near = omega (arith, h.near);
          }

  pub plan_found : (d : ℕ) (s : Days) → Plan works d s → s ≡ days_after works d
  unfolding days_after
  plan_found d s p = rw (
    steps_found works 1 d s.next (d, refl, p.next),
    steps_found works 2 d s.first (s.next, (d, refl, p.next), p.first),
    steps_found works 1 s.first s.second (s.first, refl, p.second),
    last_found s.second s.last p.last,
  )

  -- there are such days
  pub plan_is : Ending works → (d : ℕ) → Plan works d (days_after works d)
  plan_is end d =
      let (next, a) = next_is works end d in
      let (first, b) = next_is works end next in
      let (second, c) = next_is works end first in
      let (last, e) = next_is works end (second + 13) in
      let s : Days = record { next = next; first = first; second = second; last = last } in
      let p : Plan works d s = record { next = a; first = b; second = c; last = e } in
      rw (sym (plan_found d s p)) p

-- ---- where no holiday is ahead

-- from day l on the working days are Monday to Friday
abbrev pub Clear : (ℕ → Bool) → ℕ → Type 0
Clear works l = (d : ℕ) → l ≤ d → works d ≡ below (weekday d) 5

-- a weekday, or the Monday after it
pub record FromWeekday (d x : ℕ) : Type 0 where
  pub from : d ≤ x
  pub most : x ≤ d + 2
  pub is : weekday x < 5
  pub none : (y : ℕ) → d ≤ y → y < x → 5 ≤ weekday y

pub from_weekday : (d : ℕ) → FromWeekday d (weekday_from d)
unfolding weekday_from weekday
from_weekday d = go (dec_lt ((d + 5) % 7) 5)
  where
    go : Dec ((d + 5) % 7 < 5) → FromWeekday d (pick (below ((d + 5) % 7) 5) d (d + (7 - (d + 5) % 7)))
    go (yes h) = rw (is_below h) (record { from = omega arith; most = omega arith; is = h; none = λ y l m. absurd (omega arith) })
    go (no h) = rw (not_below {a = (d + 5) % 7} {b = 5} (omega arith)) (record { from = omega arith; most = omega arith; is = omega arith; none = λ y l m. omega arith })

module _ (works : ℕ → Bool) (l : ℕ) (clear : Clear works l) where
  -- the next working day is the next weekday
  pub next_clear : (d : ℕ) → l ≤ suc d → Next works d (weekday_from (d + 1))
  next_clear d o =
      let f = from_weekday (d + 1) in
      record {
        above = omega (arith, f.from);
        is = clear (weekday_from (d + 1)) (omega (arith, f.from)) ∙ is_below f.is;
        none = λ y a b. clear y (omega arith) ∙ not_below (f.none y (omega arith) b);
        near = omega (arith, f.most);
      }

  -- two weeks after a working day is a weekday
  fortnight : (d : ℕ) → l ≤ d → works d ≡ true → Next works (d + 13) (d + 14)
  unfolding weekday
  fortnight d o e =
      let w : weekday d < 5 = (below_iff _ _).0 (sym (clear d o) ∙ e) in
      record {
        above = omega arith;
        is = clear (d + 14) (omega arith) ∙ is_below {a = weekday (d + 14)} {b = 5} (omega (arith, w));
        none = λ y a b. absurd (omega arith);
        near = omega arith;
      }

  pub second_clear : (d next first second : ℕ) → Next works d next → Next works next first → Next works first second → l ≤ second
      → Plan works d (from_second next first second)
  unfolding from_second
  second_clear d next first second a b c o = record { next = a; first = b; second = c; last = fortnight second o c.is }

  pub first_clear : (d next first : ℕ) → Next works d next → Next works next first → l ≤ first → Plan works d (from_first next first)
  unfolding from_first
  first_clear d next first a b o =
      let c = next_clear first (omega arith) in
      second_clear d next first (weekday_from (first + 1)) a b c (omega (arith, c.above))

  pub next_plan : (d next : ℕ) → Next works d next → l ≤ next → Plan works d (from_next next)
  unfolding from_next
  next_plan d next a o =
      let b = next_clear next (omega arith) in
      first_clear d next (weekday_from (next + 1)) a b (omega (arith, b.above))

-- ---- one holiday more

pub record More (works works' : ℕ → Bool) (h : ℕ) : Type 0 where
  pub is : works' h ≡ false
  pub others : (d : ℕ) → d ≢ h → works' d ≡ works d
  pub clear : Clear works' (suc h)
  pub small : h < 73049

module _ (works works' : ℕ → Bool) (h : ℕ) (m : More works works' h) where
  still : (d : ℕ) → works d ≡ false → works' d ≡ false
  still d e = go (ℕ_discrete d h)
    where
      go : Dec (d ≡ h) → works' d ≡ false
      go (yes same) = ap works' same ∙ m.is
      go (no ne) = m.others d ne ∙ e

  -- another day stays the next one
  keeps : (d x : ℕ) → h ≢ x → Next works d x → Next works' d x
  keeps d x ne t = record {
    above = t.above;
    is = m.others x (λ e. ne (sym e)) ∙ t.is;
    none = λ y a b. still y (t.none y a b);
    near = t.near;
  }

  -- the holiday is the next one no more
  leaves : (d x : ℕ) → h ≡ x → Next works d x → Next works' d (weekday_from (h + 1))
  leaves d x e t = record {
    above = omega (arith, n.above, t.above);
    is = n.is;
    none = λ y a b. none y a b (dec_lt y h) (dec_lt h y);
    near = omega (arith, f.most, m.small, t.above);
  }
    where
      n : Next works' h (weekday_from (h + 1))
      n = next_clear works' (suc h) m.clear h (omega arith)

      f : FromWeekday (h + 1) (weekday_from (h + 1))
      f = from_weekday (h + 1)

      none : (y : ℕ) → d < y → y < weekday_from (h + 1) → Dec (y < h) → Dec (h < y) → works' y ≡ false
      none y a b (yes before) t' = still y (t.none y a (omega arith))
      none y a b (no o) (yes after) = n.none y after b
      none y a b (no o) (no p) = let same : y ≡ h = omega arith in ap works' same ∙ m.is

  pub plan_more : (d : ℕ) (s : Days) → Plan works d s → Plan works' d (moved s h)
  unfolding moved
  plan_more d s p = go (ℕ_discrete h s.next) (ℕ_discrete h s.first) (ℕ_discrete h s.second) (ℕ_discrete h s.last)
    where
      after : suc h ≤ weekday_from (h + 1)
      after = omega (arith, (from_weekday (h + 1)).from)

      go : Dec (h ≡ s.next) → Dec (h ≡ s.first) → Dec (h ≡ s.second) → Dec (h ≡ s.last)
          → Plan works' d
          (pick (equal h s.next) (from_next (weekday_from (h + 1)))
          (pick (equal h s.first) (from_first s.next (weekday_from (h + 1)))
          (pick (equal h s.second) (from_second s.next s.first (weekday_from (h + 1)))
          (pick (equal h s.last) (record { next = s.next; first = s.first; second = s.second; last = weekday_from (h + 1) }) s))))
      go (yes e) b c f = rw (is_equal e) (next_plan works' (suc h) m.clear d (weekday_from (h + 1)) (leaves d s.next e p.next) after)
      go (no a) (yes e) c f =
          rw (not_equal a, is_equal e)
          (first_clear works' (suc h) m.clear d s.next (weekday_from (h + 1)) (keeps d s.next a p.next) (leaves s.next s.first e p.first) after)
      go (no a) (no b) (yes e) f =
          rw (not_equal a, not_equal b, is_equal e)
          (second_clear works' (suc h) m.clear d s.next s.first (weekday_from (h + 1))
          (keeps d s.next a p.next) (keeps s.next s.first b p.first) (leaves s.first s.second e p.second) after)
      go (no a) (no b) (no c) (yes e) =
          rw (not_equal a, not_equal b, not_equal c, is_equal e)
          (record {
            next = keeps d s.next a p.next;
            first = keeps s.next s.first b p.first;
            second = keeps s.first s.second c p.second;
            last = leaves (s.second + 13) s.last e p.last;
          })
      go (no a) (no b) (no c) (no f) =
          rw (not_equal a, not_equal b, not_equal c, not_equal f)
          (record {
            next = keeps d s.next a p.next;
            first = keeps s.next s.first b p.first;
            second = keeps s.first s.second c p.second;
            last = keeps (s.second + 13) s.last f p.last;
          })
