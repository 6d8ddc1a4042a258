-- The three shares of a number, and the six halves of three, case by case.
use mathlib.Core.Path.{◌≡◌, refl}
use mathlib.Core.Logic.{◌≢◌}
use mathlib.Core.List.{List, [], ◌∷◌}
use Prim.Native.Nat.{ℕ, zero, suc, ◌<◌}
use native.Mathlib.Omega.{arith}
use Rattle.laws.specs.Tests.{choose}
use Rattle.laws.specs.Modular.{minus}
use Rattle.protocol.specs.Terms.{item}
use Rattle.protocol.specs.Tablet.{share, slot}

pub share_first : (M w x y k : ℕ) → k ≡ 0 → x ≡ share M w x y k
unfolding share
share_first M w x y k e = rw e

pub share_second : (M w x y k : ℕ) → k ≡ 1 → y ≡ share M w x y k
unfolding share
share_second M w x y k e = rw e

pub share_third : (M w x y k : ℕ) → k ≢ 0 → k ≢ 1 → minus M (minus M w x) y ≡ share M w x y k
unfolding share
share_third M w x y zero a b = absurd (omega arith)
share_third M w x y (suc zero) a b = absurd (omega arith)
share_third M w x y (suc (suc k)) a b = refl

-- the six numbers of three and of their first halves
pub split_six : (M : ℕ) (value first : List ℕ) {x y z : ℕ} → (x ≡ minus M (item value 0) (item first 0)) × (x < M) → (y ≡ minus M (item value 1) (item first 1)) × (y < M)
    → (z ≡ minus M (item value 2) (item first 2)) × (z < M) → ((k : ℕ) → k < 3 → item first k < M)
    → (q : ℕ) → q < 6
    → (item (item first 0 ∷ x ∷ item first 1 ∷ y ∷ item first 2 ∷ z ∷ []) q ≡ slot M (item value) (item first) q) × (item (item first 0 ∷ x ∷ item first 1 ∷ y ∷ item first 2 ∷ z ∷ []) q < M)
unfolding slot choose
split_six M value first hx hy hz small zero l = (refl, small 0 (omega arith))
split_six M value first hx hy hz small (suc zero) l = hx
split_six M value first hx hy hz small (suc (suc zero)) l = (refl, small 1 (omega arith))
split_six M value first hx hy hz small (suc (suc (suc zero))) l = hy
split_six M value first hx hy hz small (suc (suc (suc (suc zero)))) l = (refl, small 2 (omega arith))
split_six M value first hx hy hz small (suc (suc (suc (suc (suc zero))))) l = hz
split_six M value first hx hy hz small (suc (suc (suc (suc (suc (suc q)))))) l = absurd (omega arith)
