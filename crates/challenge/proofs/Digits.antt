-- Laws of hexadecimal digits as they are written: two for a byte.
use mathlib.Core.Path.{◌≡◌, refl, sym, ap, ◌∙◌}
use mathlib.Core.Bool.{Bool}
use mathlib.Core.List.{List, [], ◌∷◌, ◌++◌}
use Prim.Native.Nat.{ℕ, ◌+◌, ◌*◌, ◌/◌, ◌%◌, ◌<◌}
use native.Mathlib.Numerals.{add-one}
use native.Mathlib.Omega.{arith}
use lib.ListN.{length, get_or, take, drop}
use lib.Seq.{take-suc, take_at}
use Rattle.laws.specs.Tests.{below, pick}
use Rattle.laws.specs.Writing.{put, Went}
use Rattle.protocol.specs.Drawing.{hex_digit, hex_digits}

pub hex_is : (v : ℕ) (b : Bool) → below v 10 ≡ b → pick b (48 + v) (87 + v) ≡ hex_digit v
unfolding hex_digit
hex_is v b t = sym (ap (λ (b : Bool). pick b (48 + v) (87 + v)) t)

-- the two digits of a byte
abbrev pub hex_byte : ℕ → List ℕ
hex_byte b = hex_digit (b / 16) ∷ hex_digit (b % 16) ∷ []

hex_append : (a b : List ℕ) → hex_digits (a ++ b) ≡ hex_digits a ++ hex_digits b
unfolding hex_digits
hex_append [] b = refl
hex_append (x ∷ a) b = ap (λ (l : List ℕ). hex_digit (x / 16) ∷ hex_digit (x % 16) ∷ l) (hex_append a b)

-- a byte more
pub hex_more : (s : List ℕ) (i : ℕ) → i < length s → hex_digits (take i s) ++ hex_byte (get_or s i 0) ≡ hex_digits (take (i + 1) s)
unfolding hex_digits
hex_more s i h =
    sym (ap (λ (k : ℕ). hex_digits (take k s)) (add-one i) ∙ ap hex_digits (take-suc s i 0 h) ∙ hex_append (take i s) (get_or s i 0 ∷ []))

pub hex_none : (s : List ℕ) → [] ≡ hex_digits (take 0 s)
unfolding hex_digits
hex_none s = refl

pub hex_length : (s : List ℕ) → length (hex_digits s) ≡ 2 * length s
unfolding hex_digits
hex_length [] = refl
hex_length (b ∷ s) = omega (arith, hex_length s)

-- what was written first is the beginning
pub written : {l v out : List ℕ} {r : ℕ} → Went l 0 v out r → take r out ≡ v
unfolding put
written {l} {v} {out} {r} h = ap (take r) h.wrote.is ∙ take_at v (drop (0 + length v) l) r (omega (arith, h.to))
