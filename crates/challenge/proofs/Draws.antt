-- Laws of the draw of a mask, a list at a time.
use mathlib.Core.Path.{◌≡◌, sym, ap, ap₂, ◌∙◌}
use mathlib.Core.List.{List, [], ◌∷◌, ◌++◌}
use Prim.Native.Nat.{ℕ, zero, suc, ◌+◌, ◌-◌, ◌*◌, ◌%◌, ◌^◌, ◌≤◌, ◌<◌}
use native.Mathlib.Nat.{pow-suc, mul-le-mul_right, lt_of_lt_of_le}
use native.Mathlib.Numerals.{add-one}
use native.Mathlib.Omega.{arith}
use lib.ListN.{length}
use lib.Pow.{shl_exact, pow_mono}
use Rattle.laws.specs.Sums.{one_if}
use Rattle.laws.specs.Bytes.{number}
use Rattle.laws.specs.Tests.{below}
use Rattle.sha3.proofs.Digest.{sha3_224_length}
use Rattle.protocol.specs.Terms.{decimal}
use Rattle.protocol.specs.Drawing.{draw_hash, list_hash, draw_from}

pub draw_length : (i : ℕ) (q : List ℕ) (last : ℕ) → length (draw_hash i q last) ≡ 28
unfolding draw_hash
draw_length i q last = sha3_224_length (decimal i ++ (q ++ (last ∷ [])))

-- ---- one list

-- h as it is read from the hash
pub list_hash_lem : (q : List ℕ) (i : ℕ) {h : ℕ} {hash : List ℕ} → h ≡ number hash 0 8 → hash ≡ draw_hash i q 50 → h ≡ list_hash q i
unfolding list_hash
list_hash_lem q i e d = e ∙ ap (λ (l : List ℕ). number l 0 8) d

pub chosen : {h x : ℕ} (k r : ℕ) → h ≡ x → below (h % k) r ≡ below (x % k) r
chosen k r e = ap (λ (x : ℕ). below (x % k) r) e

-- ---- the mask

-- the bit of list i, as the machine computes it
pub shifted : (c i : ℕ) → c < 2 → i < 24 → c * 2 ^ i % 2 ^ 32 ≡ c * 2 ^ i
shifted c i h l = shl_exact 1 i 32 h (omega arith)

double : (i : ℕ) → 2 ^ (i + 1) ≡ 2 ^ i * 2
double i = ap (λ (n : ℕ). 2 ^ n) (add-one i) ∙ pow-suc 2 i

-- a bit more
pub mask_more : (mask c i : ℕ) → mask < 2 ^ i → c < 2 → mask + c * 2 ^ i < 2 ^ (i + 1)
mask_more mask c i h l =
    let m : c * 2 ^ i ≤ 1 * 2 ^ i = mul-le-mul_right (2 ^ i) (omega arith) in
    omega (arith, double i)

pub mask_small : {mask i : ℕ} → mask < 2 ^ i → i ≤ 24 → mask < 16777216
mask_small h l = lt_of_lt_of_le h (pow_mono l)

-- nothing is drawn yet
pub draw_start : (h : ℕ → ℕ) (k r : ℕ) → 0 + draw_from h 0 (k - 0) r * 2 ^ 0 ≡ draw_from h 0 k r
draw_start h k r =
    let e : k - 0 ≡ k = omega arith in
    ap (λ (n : ℕ). 0 + draw_from h 0 n r * 2 ^ 0) e ∙ omega arith

spread : (p c d mask : ℕ) → mask + (c + 2 * d) * p ≡ mask + c * p + d * (p * 2)
spread p c d mask = omega arith

-- what is drawn of the lists from i on, k of them, with r to choose: list i, and the others above it
pub draw_step : (h : ℕ → ℕ) (i k r c mask : ℕ) → 0 < k → c ≡ one_if (below (h i % k) r)
    → mask + draw_from h i k r * 2 ^ i ≡ mask + c * 2 ^ i + draw_from h (i + 1) (k - 1) (r - c) * 2 ^ (i + 1)
unfolding draw_from
draw_step h i zero r c mask l e = absurd (omega arith)
draw_step h i (suc k) r c mask l e =
    let z : suc k - 1 ≡ k = omega arith in
    ap (λ (c : ℕ). mask + (c + 2 * draw_from h (suc i) k (r - c)) * 2 ^ i) (sym e)
    ∙ spread (2 ^ i) c (draw_from h (suc i) k (r - c)) mask
    ∙ sym (ap₂ (λ (n j : ℕ). mask + c * 2 ^ i + draw_from h j n (r - c) * 2 ^ (i + 1)) z (add-one i) ∙ ap (λ (q : ℕ). mask + c * 2 ^ i + draw_from h (suc i) k (r - c) * q) (double i))

pub draw_none : (h : ℕ → ℕ) (i k r mask : ℕ) → k ≡ 0 → mask + draw_from h i k r * 2 ^ i ≡ mask
unfolding draw_from
draw_none h i zero r mask e = omega arith
draw_none h i (suc k) r mask e = absurd (omega arith)

-- what is drawn before list i: the mask so far, with what is drawn of the lists behind, is the whole
pub record Drawing (h : ℕ → ℕ) (lists compared all i left mask : ℕ) : Type 0 where
  pub few : left ≤ compared
  pub small : mask < 2 ^ i
  pub rest : mask + draw_from h i (lists - i) left * 2 ^ i ≡ all

pub next_list : {h : ℕ → ℕ} {lists compared all i left mask left' mask' : ℕ} (c : ℕ) → Drawing h lists compared all i left mask → i < lists → c < 2
    → c ≡ one_if (below (h i % (lists - i)) left) → mask' ≡ mask + c * 2 ^ i → left' ≡ left - c → Drawing h lists compared all (i + 1) left' mask'
next_list {h} {lists} {compared} {all} {i} {left} {mask} {left'} {mask'} c d l small e m r =
    let k : lists - (i + 1) ≡ lists - i - 1 = omega arith in
    record {
      few = omega (arith, d.few);
      small = omega (arith, mask_more mask c i d.small small);
      rest = ap₂ (λ (x y : ℕ). x + draw_from h (i + 1) (lists - (i + 1)) y * 2 ^ (i + 1)) m r
          ∙ ap (λ (n : ℕ). mask + c * 2 ^ i + draw_from h (i + 1) n (left - c) * 2 ^ (i + 1)) k
          ∙ sym (draw_step h i (lists - i) left c mask (omega arith) e) ∙ d.rest;
    }
