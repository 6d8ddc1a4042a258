-- A number of v + w bytes is made of one of v bytes and one of w, as it is read and as it is written.
use mathlib.Core.Path.{◌≡◌, sym, ap, ap₂, ◌∙◌}
use mathlib.Core.List.{List, [], ◌∷◌, ◌++◌, append_assoc, append-nil}
use Prim.Native.Nat.{ℕ, zero, suc, ◌+◌, ◌*◌, ◌/◌, ◌%◌, ◌^◌, ◌≤◌}
use native.Mathlib.Nat.{add-zero, add-suc, div-one, div-div-eq-div-mul, mul_comm, mul_assoc, pow-suc}
use native.Mathlib.Omega.{arith}
use lib.ListN.{length, get_or}
use Rattle.laws.specs.Bytes.{number, bytes, length_bytes}
use Rattle.laws.specs.Writing.{Went, go_on, go_same}

number_parts : (r : List ℕ) (a v w : ℕ) → number r a v * 256 ^ w + number r (a + v) w ≡ number r a (v + w)
unfolding number
number_parts r a v zero = rw (add-zero v) (omega arith)
number_parts r a v (suc w) =
    let e : a + v + w ≡ a + (v + w) = omega arith in
    let p : number r a v * 256 ^ suc w ≡ number r a v * 256 ^ w * 256 = ap (λ (k : ℕ). number r a v * k) (pow-suc 256 w) ∙ sym (mul_assoc (number r a v) (256 ^ w) 256) in
    rw (add-suc v w) (omega (arith, number_parts r a v w, ap (λ (k : ℕ). get_or r k 0) e))

bytes_parts : (v w x : ℕ) → bytes v (x / 256 ^ w) ++ bytes w x ≡ bytes (v + w) x
unfolding bytes
bytes_parts v zero x = rw (add-zero, append-nil) (ap (bytes v) (div-one x))
bytes_parts v (suc w) x =
    let d : x / 256 ^ suc w ≡ x / 256 / 256 ^ w = ap (λ (k : ℕ). x / k) (pow-suc 256 w ∙ mul_comm (256 ^ w) 256) ∙ sym (div-div-eq-div-mul x 256 (256 ^ w)) in
    rw (add-suc v w)
    (ap (λ (k : ℕ). bytes v k ++ (bytes w (x / 256) ++ x % 256 ∷ [])) d
    ∙ sym (append_assoc (bytes v (x / 256 / 256 ^ w)) (bytes w (x / 256)) (x % 256 ∷ []))
    ∙ ap (λ (l : List ℕ). l ++ x % 256 ∷ []) (bytes_parts v w (x / 256)))

-- read in two parts
pub read_on : (r : List ℕ) (a v w : ℕ) {x y : ℕ} → x ≡ number r a v → y ≡ number r (a + v) w → x * 256 ^ w + y ≡ number r a (v + w)
read_on r a v w p q = ap₂ (λ (x y : ℕ). x * 256 ^ w + y) p q ∙ number_parts r a v w

-- written in two parts
pub put_on : {l out out' : List ℕ} {a b r : ℕ} (v w x : ℕ) → Went l a (bytes v (x / 256 ^ w)) out b → Went out b (bytes w x) out' r → Went l a (bytes (v + w) x) out' r
put_on v w x h e = go_same (go_on h e) (bytes_parts v w x)

-- there is room for the second part
pub room_on : {l out : List ℕ} {a b : ℕ} (v w x : ℕ) → Went l a (bytes v x) out b → a + (v + w) ≤ length l → b + w ≤ length out
room_on v w x h k = omega (arith, h.to, h.wrote.long, length_bytes v x)
