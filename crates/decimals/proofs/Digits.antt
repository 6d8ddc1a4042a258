-- Laws of decimal digits as they are written: the last behind the others.
use mathlib.Core.Path.{◌≡◌, sym, ap, ap₂, ◌∙◌}
use mathlib.Core.Bool.{Bool, true, false}
use mathlib.Core.List.{List, [], ◌∷◌, ◌++◌}
use Prim.Native.Nat.{ℕ, zero, suc, ◌+◌, ◌/◌, ◌%◌, ◌^◌, ◌≤◌, ◌<◌}
use native.Mathlib.Nat.{mod-eq_of_lt}
use native.Mathlib.Omega.{arith}
use lib.ListN.{length, length-append}
use Rattle.laws.specs.Tests.{below, pick, is_below, not_below}
use Rattle.laws.specs.Bytes.{bytes, length_bytes}
use Rattle.protocol.specs.Terms.{digits, decimal}

pub one_byte : (x : ℕ) → x < 256 → bytes 1 x ≡ x ∷ []
unfolding bytes
one_byte x h = ap (λ (b : ℕ). b ∷ []) (mod-eq_of_lt h)

-- as many digits as are needed, however many are allowed
digits_enough : (k x : ℕ) → x < 10 ^ suc k → digits (suc (suc k)) x ≡ digits (suc k) x
unfolding digits
digits_enough zero x h = rw (is_below h)
digits_enough (suc k) x h =
    ap (λ (l : List ℕ). pick (below x 10) ((48 + x) ∷ []) (l ++ ((48 + x % 10) ∷ []))) (digits_enough k (x / 10) (omega arith))

decimal_is : (x : ℕ) (b : Bool) → below x 10 ≡ b → pick b ((48 + x) ∷ []) (digits 9 (x / 10) ++ ((48 + x % 10) ∷ [])) ≡ decimal x
unfolding decimal digits
decimal_is x b t = sym (ap (λ (b : Bool). pick b ((48 + x) ∷ []) (digits 9 (x / 10) ++ ((48 + x % 10) ∷ []))) t)

pub decimal_one : (x : ℕ) → x < 10 → bytes 1 (48 + x) ≡ decimal x
decimal_one x h = one_byte (48 + x) (omega arith) ∙ decimal_is x true (is_below h)

pub decimal_more : (x : ℕ) → 10 ≤ x → x < 10000000000 → decimal (x / 10) ++ bytes 1 (48 + x % 10) ≡ decimal x
unfolding decimal
decimal_more x h l =
    ap₂ (λ (a b : List ℕ). a ++ b) (digits_enough 8 (x / 10) (omega arith)) (one_byte (48 + x % 10) (omega arith))
    ∙ decimal_is x false (not_below h)

pub decimal_one_long : (x : ℕ) → x < 10 → length (decimal x) ≡ 1
decimal_one_long x h = ap length (sym (decimal_one x h)) ∙ length_bytes 1 (48 + x)

pub decimal_more_long : (x : ℕ) → 10 ≤ x → x < 10000000000 → length (decimal x) ≡ length (decimal (x / 10)) + 1
decimal_more_long x h l =
    omega (arith, ap length (decimal_more x h l), length-append (decimal (x / 10)) (bytes 1 (48 + x % 10)), length_bytes 1 (48 + x % 10))

digits_length : (k x : ℕ) → length (digits k x) ≤ k
unfolding digits
digits_length zero x = omega arith
digits_length (suc k) x = go (below x 10) (digits_length k (x / 10))
  where
    go : (b : Bool) → length (digits k (x / 10)) ≤ k → length (pick b ((48 + x) ∷ []) (digits k (x / 10) ++ ((48 + x % 10) ∷ []))) ≤ suc k
    go true h = omega arith
    go false h = omega (arith, length-append (digits k (x / 10)) ((48 + x % 10) ∷ []))

pub decimal_length : (x : ℕ) → length (decimal x) ≤ 10
unfolding decimal
decimal_length x = digits_length 10 x
