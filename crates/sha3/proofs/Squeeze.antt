-- Laws of squeezing: the length of what comes out, that it is bytes, and the loops that write it.
use mathlib.Core.Path.{◌≡◌, refl, ap, ap₂, ◌∙◌}
use mathlib.Core.List.{List, [], ◌∷◌, ◌++◌}
use Prim.Native.Nat.{ℕ, zero, suc, ◌+◌, ◌*◌, ◌/◌, ◌%◌, ◌^◌, ◌≤◌, ◌<◌}
use native.Mathlib.Nat.{add-zero, add-suc}
use native.Mathlib.Numerals.{add-one}
use native.Mathlib.Omega.{arith}
use lib.ListN.{length, get_or, set, take, length-append, length-set}
use lib.Seq.{take-suc-set, take_all, take-append-le}
use lib.Bits.{bit_and, and_mask}
use Rattle.laws.specs.Bytes.{Below}
use Rattle.laws.specs.Tables.{tabulate, get_tabulate}
use Rattle.keccak.specs.Keccak.{at}
use Rattle.sha3.specs.Sha3.{byte_at, squeeze}
use Rattle.sha3.specs.Word.{put_lane}

pub length_squeeze : (l : List ℕ) (n : ℕ) → length (squeeze l n) ≡ n
unfolding squeeze
length_squeeze l zero = refl
length_squeeze l (suc n) = simp (length-append, length_squeeze l n) (omega arith)

-- what comes out is bytes
squeeze_is : (l : List ℕ) (n : ℕ) → squeeze l n ≡ tabulate (byte_at l) n
unfolding squeeze tabulate
squeeze_is l zero = refl
squeeze_is l (suc n) = ap (λ (x : List ℕ). x ++ (byte_at l n ∷ [])) (squeeze_is l n)

pub squeeze_below : (l : List ℕ) (n : ℕ) → Below 256 (squeeze l n)
unfolding byte_at
squeeze_below l n i h =
    omega (arith, ap (λ (x : List ℕ). get_or x i 0) (squeeze_is l n), get_tabulate (byte_at l) n i (omega (arith, length_squeeze l n)))

-- fewer bytes are the first of more
pub take_squeeze : (l : List ℕ) (d k : ℕ) → take d (squeeze l (d + k)) ≡ squeeze l d
unfolding squeeze
take_squeeze l d zero =
    ap (λ (n : ℕ). take d (squeeze l n)) (add-zero d) ∙ take_all d (squeeze l d) (omega (arith, length_squeeze l d))
take_squeeze l d (suc k) =
    ap (λ (n : ℕ). take d (squeeze l n)) (add-suc d k)
    ∙ take-append-le d (squeeze l (d + k)) (byte_at l (d + k) ∷ []) (omega (arith, length_squeeze l (d + k)))
    ∙ take_squeeze l d k

-- a byte is written
pub byte_more : (l out : List ℕ) (i : ℕ) → i < length out → take i out ≡ squeeze l i → take (i + 1) (set out i (byte_at l i)) ≡ squeeze l (i + 1)
unfolding squeeze
byte_more l out i h e = rw add-one (take-suc-set out i (byte_at l i) h ∙ ap (λ (x : List ℕ). x ++ (byte_at l i ∷ [])) e)

pub length_put_lane : (out : List ℕ) (i x n : ℕ) → length (put_lane out i x n) ≡ length out
unfolding put_lane
length_put_lane out i x zero = refl
length_put_lane out i x (suc n) = length-set (put_lane out i x n) (i + n) (x / 2 ^ (n * 8) % 256) ∙ length_put_lane out i x n

-- a byte of a lane is one of the state
pub lane_byte : (l : List ℕ) (k n : ℕ) → n < 8 → at l k / 2 ^ (n * 8) % 256 ≡ byte_at l (8 * k + n)
unfolding byte_at
lane_byte l k n h =
    let d : k ≡ (8 * k + n) / 8 = omega arith in
    let r : n ≡ (8 * k + n) % 8 = omega arith in
    ap₂ (λ (x y : ℕ). at l x / 2 ^ (y * 8) % 256) d r

-- bytes of a lane are written
pub lane_more : (l out : List ℕ) (k n : ℕ) → n ≤ 8 → 8 * k + n ≤ length out → take (8 * k) out ≡ squeeze l (8 * k) →
    take (8 * k + n) (put_lane out (8 * k) (at l k) n) ≡ squeeze l (8 * k + n)
unfolding put_lane
lane_more l out k zero h f e = rw add-zero e
lane_more l out k (suc n) h f e =
    let s : 8 * k + suc n ≡ 8 * k + n + 1 = omega arith in
    rw (s, lane_byte l k n (omega arith))
    (byte_more l (put_lane out (8 * k) (at l k) n) (8 * k + n) (omega (arith, length_put_lane out (8 * k) (at l k) n))
    (lane_more l out k n (omega arith) (omega arith) e))

-- the byte as the machine computes it
pub byte_is : (l : List ℕ) (i : ℕ) → bit_and (at l (i / 8) / 2 ^ (i % 8 * 8)) 255 ≡ byte_at l i
unfolding byte_at
byte_is l i = and_mask (at l (i / 8) / 2 ^ (i % 8 * 8)) 8
