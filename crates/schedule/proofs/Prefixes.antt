-- Sums of the first n values of a function: where a number lies among them.
use mathlib.Core.Path.{◌≡◌}
use Prim.Native.Nat.{ℕ, zero, suc, ◌+◌, ◌≤◌, ◌<◌}
use native.Mathlib.Nat.{le_refl}
use native.Mathlib.Decide.{dec_lt}
use native.Mathlib.Omega.{arith}
use Rattle.laws.specs.Sums.{sum}

module _ (f : ℕ → ℕ) where
  -- what is summed grows
  pub sum_up : (n m : ℕ) → n ≤ m → sum f n ≤ sum f m
  sum_up n zero l = let e : n ≡ 0 = omega arith in rw e (le_refl _)
  sum_up n (suc m) l = go (dec_lt m n) (sum_up n m)
    where
      go : Dec (m < n) → (n ≤ m → sum f n ≤ sum f m) → sum f n ≤ sum f m + f m
      go (yes h) ih = let e : n ≡ suc m = omega arith in rw e (le_refl _)
      go (no h) ih = omega (arith, ih (omega arith))

  pub sum_part : (n m : ℕ) → n < m → sum f n + f n ≤ sum f m
  sum_part n m l = sum_up (suc n) m l

  -- a number below the sum lies in one of its parts
  pub record Part (n d : ℕ) : Type 0 where
    pub index : ℕ
    pub within : index < n
    pub from : sum f index ≤ d
    pub to : d < sum f index + f index

  pub locate : (n d : ℕ) → d < sum f n → Part n d
  locate zero d l = absurd (omega arith)
  locate (suc n) d l = go (dec_lt d (sum f n)) (locate n d)
    where
      go : Dec (d < sum f n) → (d < sum f n → Part n d) → Part (suc n) d
      go (yes h) ih = let p = ih h in record { index = p.index; within = omega (arith, p.within); from = p.from; to = p.to }
      go (no h) ih = record { index = n; within = le_refl (suc n); from = omega arith; to = l }

  -- two that lie in parts are in the order of these, and in one part in the order of what is left
  pub parts_rise : (n m a b : ℕ) → n < m → a < f n → sum f n + a < sum f m + b
  parts_rise n m a b l k = omega (arith, sum_part n m l)
