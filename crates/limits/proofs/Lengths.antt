-- How long a number is in binary, by its leading zeros.
use mathlib.Core.Path.{◌≡◌}
use mathlib.Core.Logic.{◌↔◌}
use Prim.Native.Nat.{ℕ, suc, ◌+◌, ◌-◌, ◌*◌, ◌^◌, ◌≤◌, ◌<◌}
use native.Mathlib.Nat.{lt_of_lt_of_le, pow-succ'}
use native.Mathlib.Decide.{dec_le}
use native.Mathlib.Omega.{arith}
use lib.Count.{count_leading_zeros, leading_length}
use lib.Pow.{pow_mono}

-- a number of k digits is below 2 ^ n exactly if at most n digits are left of it without its leading zeros
pub short : (k a n : ℕ) → a < 2 ^ k → (k - count_leading_zeros k a ≤ n) ↔ (a < 2 ^ n)
short k a n h = (λ e. lt_of_lt_of_le t.2 (pow_mono {i = t.0} {j = n} (omega (arith, t.1))), λ l. go l (dec_le t.0 n))
  where
    t : (m : ℕ) × (count_leading_zeros k a + m ≡ k) × (a < 2 ^ m) × (2 ^ m ≤ 2 * a + 1)
    t = leading_length k a h

    go : a < 2 ^ n → Dec (t.0 ≤ n) → k - count_leading_zeros k a ≤ n
    go l (yes e) = omega (arith, t.1)
    go l (no f) = absurd (omega (arith, t.3, pow_mono {i = suc n} {j = t.0} (omega arith), pow-succ' 2 n))
