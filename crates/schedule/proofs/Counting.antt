-- Document 02, item 7: the k-th working day after a day is found by going from one working day to the next.
use mathlib.Core.Path.{◌≡◌, refl, sym, ap, ◌∙◌}
use mathlib.Core.Bool.{Bool, true, false}
use Prim.Native.Nat.{ℕ, zero, suc, ◌+◌, ◌-◌, ◌*◌, ◌%◌, ◌≤◌, ◌<◌}
use native.Mathlib.Decide.{dec_lt}
use native.Mathlib.Omega.{arith}
use Rattle.laws.specs.Tests.{equal, is_equal, not_equal}
use Rattle.laws.specs.Sums.{one_if}
use Rattle.schedule.specs.Dates.{days_of_years}
use Rattle.schedule.specs.Working.{weekday, working_after, kth_after}
use Rattle.schedule.proofs.Least.{least_is, first_of}
use Rattle.schedule.proofs.Dating.{all_days}

-- behind 2199 there are weekends and no holidays
pub record Ending (works : ℕ → Bool) : Type 0 where
  pub late : (d : ℕ) → 73049 ≤ d → weekday d < 5 → works d ≡ true

module _ (works : ℕ → Bool) where
  -- x is the next working day after d, at most three days after it, or after the last day of 2199
  pub record Next (d x : ℕ) : Type 0 where
    pub above : d < x
    pub is : works x ≡ true
    pub none : (y : ℕ) → d < y → y < x → works y ≡ false
    pub near : x ≤ (d + (73049 - d)) + 3

  -- k times the next working day
  abbrev pub Steps : ℕ → ℕ → ℕ → Type 0
  Steps zero d x = d ≡ x
  Steps (suc k) d x = (y : ℕ) × Steps k d y × Next y x

  -- x is the least from d on such that the days after d up to x have k working days
  pub record Kth (k d x : ℕ) : Type 0 where
    pub from : d ≤ x
    pub has : working_after works d (x - d) ≡ k
    pub fewer : (n : ℕ) → n < x - d → working_after works d n < k
    pub near : x ≤ (d + (73049 - d)) + 3 * k

  one_more : (d n : ℕ) → working_after works d (suc n) ≡ working_after works d n + one_if (works (d + suc n))
  unfolding working_after
  one_more d n = refl

  -- ---- from one working day to the next the count stays

  stays : (d y x j : ℕ) → d ≤ y → Next y x → y + j < x → working_after works d ((y - d) + j) ≡ working_after works d (y - d)
  stays d y x zero l h k = ap (working_after works d) (omega arith)
  stays d y x (suc j) l h k =
      let place : d + suc ((y - d) + j) ≡ y + suc j = omega arith in
      let off : works (d + suc ((y - d) + j)) ≡ false = ap works place ∙ h.none (y + suc j) (omega arith) k in
      let next : (y - d) + suc j ≡ suc ((y - d) + j) = omega arith in
      omega (arith, ap (working_after works d) next, one_more d ((y - d) + j), ap one_if off, stays d y x j l h (omega arith))

  kth_next : (k d y x : ℕ) → Kth k d y → Next y x → Kth (suc k) d x
  kth_next k d y x t h = record { from = omega (arith, t.from, h.above); has = has; fewer = fewer; near = omega (arith, t.near, t.from, h.near) }
    where
      until : (n : ℕ) → n < x - d → y - d ≤ n → working_after works d n ≡ k
      until n l m =
          let split : n ≡ (y - d) + (n - (y - d)) = omega arith in
          ap (working_after works d) split ∙ stays d y x (n - (y - d)) t.from h (omega (arith, t.from)) ∙ t.has

      fewer : (n : ℕ) → n < x - d → working_after works d n < suc k
      fewer n l = go (dec_lt n (y - d))
        where
          go : Dec (n < y - d) → working_after works d n < suc k
          go (yes m) = omega (arith, t.fewer n m)
          go (no m) = omega (arith, until n l (omega arith))

      has : working_after works d (x - d) ≡ suc k
      has =
          let n = x - suc d in
          let next : x - d ≡ suc n = omega (arith, t.from, h.above) in
          let place : d + suc n ≡ x = omega (arith, t.from, h.above) in
          omega (
            arith,
            ap (working_after works d) next,
            one_more d n,
            ap one_if (ap works place ∙ h.is),
            until n (omega (arith, t.from, h.above)) (omega (arith, t.from, h.above)),
          )

  kth_none : (d : ℕ) → Kth 0 d d
  unfolding working_after
  kth_none d = record {
    from = omega arith;
    has = let zero_days : d - d ≡ 0 = omega arith in ap (working_after works d) zero_days;
    fewer = λ n l. absurd (omega arith);
    near = omega arith;
  }

  pub kth_steps : (k d x : ℕ) → Steps k d x → Kth k d x
  kth_steps zero d x e = rw (sym e) (kth_none d)
  kth_steps (suc k) d x (y, s, h) = kth_next k d y x (kth_steps k d y s) h

  -- there is only one, and it is what the definition finds
  pub kth_found : (k d x : ℕ) → Kth k d x → kth_after works k d ≡ x
  unfolding kth_after
  kth_found k d x t =
      let test : ℕ → Bool = λ n. equal (working_after works d n) k in
      let found = least_is test ((days_of_years 200 - d) + 7 * k) (x - d) (omega (arith, t.near, all_days)) (λ n l. not_equal (λ e. omega (arith, t.fewer n l))) (λ l. is_equal t.has) in
      omega (arith, found, t.from)

  pub steps_found : (k d x : ℕ) → Steps k d x → kth_after works k d ≡ x
  steps_found k d x s = kth_found k d x (kth_steps k d x s)

  -- ---- there is always a next one

  weekday_near : (s : ℕ) → (x : ℕ) × (s ≤ x) × (x ≤ s + 2) × (weekday x < 5)
  unfolding weekday
  weekday_near s = go (dec_lt ((s + 5) % 7) 5) (dec_lt ((s + 1 + 5) % 7) 5)
    where
      go : Dec ((s + 5) % 7 < 5) → Dec ((s + 1 + 5) % 7 < 5) → (x : ℕ) × (s ≤ x) × (x ≤ s + 2) × ((x + 5) % 7 < 5)
      go (yes h) t = (s, omega arith, omega arith, h)
      go (no h) (yes t) = (s + 1, omega arith, omega arith, t)
      go (no h) (no t) = (s + 2, omega arith, omega arith, omega arith)

  pub next_is : Ending works → (d : ℕ) → (x : ℕ) × Next d x
  next_is end d =
      let (x, low, high, w) = weekday_near (d + (73049 - d) + 1) in
      let place : d + suc (x - suc d) ≡ x = omega arith in
      let f = first_of (λ n. works (d + suc n)) (x - suc d) (ap works place ∙ end.late x (omega arith) w) in (
        d + suc f.at,
        record {
          above = omega arith;
          is = f.is;
          none = λ y l m. let back : d + suc (y - suc d) ≡ y = omega arith in ap works (sym back) ∙ f.none (y - suc d) (omega arith);
          near = omega (arith, f.most);
        },
      )

  pub steps_are : Ending works → (k d : ℕ) → (x : ℕ) × Steps k d x
  steps_are end zero d = (d, refl)
  steps_are end (suc k) d = let (y, s) = steps_are end k d in let (x, h) = next_is end y in (x, (y, s, h))

  -- the definition finds the least x such that the days after d up to x have k working days
  pub kth_is : Ending works → (k d : ℕ) → Kth k d (kth_after works k d)
  kth_is end k d = let (x, s) = steps_are end k d in rw (steps_found k d x s) (kth_steps k d x s)

  -- .. and for k of 1 it is the next working day
  pub kth_next_is : Ending works → (d : ℕ) → Next d (kth_after works 1 d)
  kth_next_is end d = let (x, h) = next_is end d in rw (steps_found 1 d x (d, refl, h)) h
