-- Laws of bytes that are added to a state.
use mathlib.Core.Path.{◌≡◌, refl, sym, ap, ap₂, ◌∙◌}
use mathlib.Core.List.{List, [], ◌∷◌}
use Prim.Native.Nat.{ℕ, zero, suc, ◌+◌, ◌*◌, ◌/◌, ◌%◌, ◌^◌, ◌≤◌, ◌<◌}
use native.Mathlib.Nat.{mul-one}
use native.Mathlib.Numerals.{add-one}
use native.Mathlib.Omega.{arith}
use lib.Dec.{lit≤}
use lib.Pow.{shl_exact}
use lib.Bits.{bit_xor}
use lib.ListN.{length, get_or, set, take, drop}
use lib.Seq.{set-get_or, drop-cons}
use Rattle.keccak.specs.Keccak.{at}
use Rattle.sha3.specs.Sha3.{xor_byte}
use Rattle.sha3.specs.Word.{word_at, half_word_at}
use Rattle.keccak.proofs.Xor.{xor_assoc}

-- the bytes of a list added to the state from byte n on
unfoldable pub xor_bytes : List ℕ → ℕ → List ℕ → List ℕ
xor_bytes l n [] = l
xor_bytes l n (b ∷ bs) = xor_bytes (xor_byte l n b) (n + 1) bs

-- ---- eight bytes are a word

-- a byte fits where it is shifted to
pub shl_byte : (b k : ℕ) → b < 256 → k ≤ 56 → b * 2 ^ k % 2 ^ 64 ≡ b * 2 ^ k
shl_byte b k h l = shl_exact 8 k 64 h (omega arith)

-- the operation is kept abstract here, as `bit_xor` unfolds
chain : (f : ℕ → ℕ → ℕ) (x : ℕ) {a b c d e g h a' b' c' d' e' g' h' : ℕ} → a ≡ a' → b ≡ b' → c ≡ c' → d ≡ d' → e ≡ e' → g ≡ g' → h ≡ h' →
    f (f (f (f (f (f (f x a) b) c) d) e) g) h ≡ f (f (f (f (f (f (f x a') b') c') d') e') g') h'
chain f x p q r s t u v = cc

module _ (p : List ℕ) (i : ℕ) (h : (k : ℕ) → get_or p k 0 < 256) where
  e : (k n : ℕ) → n ≤ 56 → at p k * 2 ^ n % 2 ^ 64 ≡ at p k * 2 ^ n
  e k n l = shl_byte (at p k) n (h k) l

  -- the word as the machine computes it
  pub word_law :
      bit_xor
      (bit_xor
      (bit_xor
      (bit_xor
      (bit_xor
      (bit_xor (bit_xor (at p i) (at p (i + 1) * 2 ^ 8 % 2 ^ 64)) (at p (i + 2) * 2 ^ 16 % 2 ^ 64))
      (at p (i + 3) * 2 ^ 24 % 2 ^ 64))
      (at p (i + 4) * 2 ^ 32 % 2 ^ 64))
      (at p (i + 5) * 2 ^ 40 % 2 ^ 64))
      (at p (i + 6) * 2 ^ 48 % 2 ^ 64))
      (at p (i + 7) * 2 ^ 56 % 2 ^ 64)
      ≡ word_at p i
  unfolding word_at
  word_law =
      chain bit_xor (at p i) (e (i + 1) 8 (omega arith)) (e (i + 2) 16 (omega arith)) (e (i + 3) 24 (omega arith)) (e (i + 4) 32 (omega arith)) (e (i + 5) 40 (omega arith))
      (e (i + 6) 48 (omega arith)) (e (i + 7) 56 (omega arith))

  -- the half of a word as the machine computes it
  pub half_word_law :
      bit_xor (bit_xor (bit_xor (at p i) (at p (i + 1) * 2 ^ 8 % 2 ^ 64)) (at p (i + 2) * 2 ^ 16 % 2 ^ 64)) (at p (i + 3) * 2 ^ 24 % 2 ^ 64) ≡ half_word_at p i
  unfolding half_word_at
  half_word_law = ap₂ bit_xor (ap₂ bit_xor (ap (bit_xor (at p i)) (e (i + 1) 8 (omega arith))) (e (i + 2) 16 (omega arith))) (e (i + 3) 24 (omega arith))

-- a number to which the bytes of a list are added, the first one to its byte j
unfoldable joined : ℕ → ℕ → List ℕ → ℕ
joined v j [] = v
joined v j (b ∷ bs) = joined (bit_xor v (b * 2 ^ (j * 8))) (j + 1) bs

joined_xor : (x y j : ℕ) (bs : List ℕ) → joined (bit_xor x y) j bs ≡ bit_xor x (joined y j bs)
unfolding joined
joined_xor x y j [] = refl
joined_xor x y j (b ∷ bs) = ap (λ (v : ℕ). joined v (j + 1) bs) (xor_assoc x y (b * 2 ^ (j * 8))) ∙ joined_xor x (bit_xor y (b * 2 ^ (j * 8))) (j + 1) bs

-- a lane is changed twice, wherever it stands
set_read : (f : ℕ → ℕ) (m : List ℕ) (k v : ℕ) → set (set m k v) k (f (at (set m k v) k)) ≡ set m k (f v)
set_read f [] k v = refl
set_read f (x ∷ m) zero v = refl
set_read f (x ∷ m) (suc k) v = ap (λ (l : List ℕ). x ∷ l) (set_read f m k v)

module _ (m : List ℕ) (k : ℕ) where
  one : (n j b v : ℕ) → n ≡ 8 * k + j → j < 8 → xor_byte (set m k v) n b ≡ set m k (bit_xor v (b * 2 ^ (j * 8)))
  unfolding xor_byte
  one n j b v q l =
      let d : n / 8 ≡ k = omega arith in
      let r : n % 8 ≡ j = omega arith in
      ap₂ (λ (x y : ℕ). set (set m k v) x (bit_xor (at (set m k v) x) (b * 2 ^ (y * 8)))) d r
      ∙ set_read (λ z. bit_xor z (b * 2 ^ (j * 8))) m k v

  -- bytes of one lane, from its byte j on
  within : (n j v : ℕ) (bs : List ℕ) → n ≡ 8 * k + j → j + length bs ≤ 8 → xor_bytes (set m k v) n bs ≡ set m k (joined v j bs)
  unfolding xor_bytes joined
  within n j v [] q h = refl
  within n j v (b ∷ bs) q h =
      ap (λ (x : List ℕ). xor_bytes x (n + 1) bs) (one n j b v q (omega arith))
      ∙ within (n + 1) (j + 1) (bit_xor v (b * 2 ^ (j * 8))) bs (omega arith) (omega arith)

  -- bytes of one lane, from its first on
  lowest : (b : ℕ) (bs : List ℕ) → length bs ≤ 7 → xor_bytes m (8 * k) (b ∷ bs) ≡ set m k (bit_xor (at m k) (joined b 1 bs))
  unfolding joined
  lowest b bs h =
      ap (λ (l : List ℕ). xor_bytes l (8 * k) (b ∷ bs)) (sym (set-get_or m k 0))
      ∙ within (8 * k) 0 (at m k) (b ∷ bs) (omega arith) (omega arith)
      ∙ ap (set m k) (joined_xor (at m k) (b * 1) 1 bs ∙ ap (λ (z : ℕ). bit_xor (at m k) (joined z 1 bs)) (mul-one b))

  pub eight : (b0 b1 b2 b3 b4 b5 b6 b7 : ℕ) →
      xor_bytes m (8 * k) (b0 ∷ b1 ∷ b2 ∷ b3 ∷ b4 ∷ b5 ∷ b6 ∷ b7 ∷ [])
      ≡ set m k
      (bit_xor (at m k)
      (bit_xor
      (bit_xor
      (bit_xor (bit_xor (bit_xor (bit_xor (bit_xor b0 (b1 * 2 ^ 8)) (b2 * 2 ^ 16)) (b3 * 2 ^ 24)) (b4 * 2 ^ 32)) (b5 * 2 ^ 40))
      (b6 * 2 ^ 48))
      (b7 * 2 ^ 56)))
  unfolding joined
  eight b0 b1 b2 b3 b4 b5 b6 b7 = lowest b0 (b1 ∷ b2 ∷ b3 ∷ b4 ∷ b5 ∷ b6 ∷ b7 ∷ []) (lit≤ tt)

  pub four : (b0 b1 b2 b3 : ℕ) →
      xor_bytes m (8 * k) (b0 ∷ b1 ∷ b2 ∷ b3 ∷ []) ≡ set m k (bit_xor (at m k) (bit_xor (bit_xor (bit_xor b0 (b1 * 2 ^ 8)) (b2 * 2 ^ 16)) (b3 * 2 ^ 24)))
  unfolding joined
  four b0 b1 b2 b3 = lowest b0 (b1 ∷ b2 ∷ b3 ∷ []) (lit≤ tt)

-- ---- the bytes from i on

module _ (p : List ℕ) where
  first : (n j j' : ℕ) → j + 1 ≡ j' → j < length p → take (suc n) (drop j p) ≡ at p j ∷ take n (drop j' p)
  first n j j' q l = ap (take (suc n)) (drop-cons p j 0 l) ∙ ap (λ (k : ℕ). at p j ∷ take n (drop k p)) (sym (add-one j) ∙ q)

  put : (x : ℕ) {a b : List ℕ} → a ≡ b → ◌≡◌ {A = List ℕ} (x ∷ a) (x ∷ b)
  put x e = ap (λ (l : List ℕ). x ∷ l) e

  pub take_four : (i : ℕ) → i + 4 ≤ length p → take 4 (drop i p) ≡ at p i ∷ at p (i + 1) ∷ at p (i + 2) ∷ at p (i + 3) ∷ []
  take_four i h =
      first 3 i (i + 1) (omega arith) (omega arith)
      ∙ put (at p i)
      (first 2 (i + 1) (i + 2) (omega arith) (omega arith)
      ∙ put (at p (i + 1))
      (first 1 (i + 2) (i + 3) (omega arith) (omega arith)
      ∙ put (at p (i + 2)) (first 0 (i + 3) (i + 4) (omega arith) (omega arith))))

  pub take_eight : (i : ℕ) → i + 8 ≤ length p →
      take 8 (drop i p) ≡ at p i ∷ at p (i + 1) ∷ at p (i + 2) ∷ at p (i + 3) ∷ at p (i + 4) ∷ at p (i + 5) ∷ at p (i + 6) ∷ at p (i + 7) ∷ []
  take_eight i h =
      first 7 i (i + 1) (omega arith) (omega arith)
      ∙ put (at p i)
      (first 6 (i + 1) (i + 2) (omega arith) (omega arith)
      ∙ put (at p (i + 1))
      (first 5 (i + 2) (i + 3) (omega arith) (omega arith)
      ∙ put (at p (i + 2))
      (first 4 (i + 3) (i + 4) (omega arith) (omega arith)
      ∙ put (at p (i + 3))
      (first 3 (i + 4) (i + 5) (omega arith) (omega arith)
      ∙ put (at p (i + 4))
      (first 2 (i + 5) (i + 6) (omega arith) (omega arith)
      ∙ put (at p (i + 5))
      (first 1 (i + 6) (i + 7) (omega arith) (omega arith)
      ∙ put (at p (i + 6)) (first 0 (i + 7) (i + 8) (omega arith) (omega arith))))))))
