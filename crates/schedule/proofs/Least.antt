-- The least number that meets a test: it is known by meeting the test, and by that none before it does.
use mathlib.Core.Path.{◌≡◌, refl, ap}
use mathlib.Core.Bool.{Bool, true, false}
use Prim.Native.Nat.{ℕ, zero, suc, ◌≤◌, ◌<◌}
use native.Mathlib.Omega.{arith}
use Rattle.schedule.specs.Dates.{least}

pub least_is : (test : ℕ → Bool) (n k : ℕ) → k ≤ n → ((i : ℕ) → i < k → test i ≡ false) → (k < n → test k ≡ true) → least test n ≡ k
unfolding least
least_is test zero k l none is = omega arith
least_is test (suc n) zero l none is = rw (is (omega arith)) refl
least_is test (suc n) (suc k) l none is =
    rw (none 0 (omega arith))
    (ap suc (least_is (λ i. test (suc i)) n k (omega arith) (λ i h. none (suc i) (omega arith)) (λ h. is (omega arith))))

-- what is found where something is to be found
pub record First (test : ℕ → Bool) (n : ℕ) : Type 0 where
  pub at : ℕ
  pub most : at ≤ n
  pub is : test at ≡ true
  pub none : (i : ℕ) → i < at → test i ≡ false

pub first_of : (test : ℕ → Bool) (n : ℕ) → test n ≡ true → First test n
first_of test zero e = record { at = 0; most = omega arith; is = e; none = λ i l. absurd (omega arith) }
first_of test (suc n) e = go (test 0) refl (first_of (λ i. test (suc i)) n e)
  where
    go : (b : Bool) → test 0 ≡ b → First (λ i. test (suc i)) n → First test (suc n)
    go true t f = record { at = 0; most = omega arith; is = t; none = λ i l. absurd (omega arith) }
    go false t f = record { at = suc f.at; most = omega (arith, f.most); is = f.is; none = none }
      where
        none : (i : ℕ) → i < suc f.at → test i ≡ false
        none zero l = t
        none (suc i) l = f.none i (omega arith)
