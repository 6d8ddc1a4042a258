-- Laws of absorbing: a byte, a word, bytes that leave room, and a message in pieces.
use mathlib.Core.Path.{◌≡◌, refl, sym, ap, ap₂, ◌∙◌, subst}
use mathlib.Core.Bool.{Bool}
use mathlib.Core.List.{List, [], ◌∷◌, ◌++◌}
use Prim.Native.Nat.{ℕ, zero, suc, ◌+◌, ◌-◌, ◌*◌, ◌/◌, ◌%◌, ◌≤◌, ◌<◌}
use native.Mathlib.Nat.{not-suc-le-zero}
use native.Mathlib.Numerals.{add-one}
use native.Mathlib.Omega.{arith}
use lib.ListN.{length, set, take, drop, take-append-drop}
use lib.Bits.{bit_xor}
use lib.Dec.{lit<}
use lib.Seq.{drop-cons, drop-drop}
use borrow.Author.Tests.{eq-eqb, ne_eqb}
use Rattle.keccak.specs.Keccak.{at, keccak_f}
use Rattle.sha3.specs.declared.Sponge.{Sponge}
use Rattle.sha3.specs.Sha3.{Rate, sponge, xor_byte, turn, absorb_byte, absorb_bytes, pick, empty}
use Rattle.sha3.specs.Word.{word_at, half_word_at, add_words}
use Rattle.sha3.proofs.Laws.{xor_bytes, take_four, take_eight, four, eight}

module _ (rate : ℕ) where
  pub turn_full : (l : List ℕ) (n : ℕ) → n ≡ rate → turn rate l n ≡ sponge (keccak_f l) 0
  unfolding turn
  turn_full l n e = ap (λ (t : Bool). pick t (sponge (keccak_f l) 0) (sponge l n)) (eq-eqb n rate e)

  pub turn_more : (l : List ℕ) (n : ℕ) → (n ≡ rate → ⊥) → turn rate l n ≡ sponge l n
  unfolding turn
  turn_more l n f = ap (λ (t : Bool). pick t (sponge (keccak_f l) 0) (sponge l n)) (ne_eqb n rate f)

  pub byte_law : (p l : List ℕ) (n i : ℕ) → i < length p →
      absorb_bytes rate (sponge l n) (drop i p) ≡ absorb_bytes rate (turn rate (xor_byte l n (at p i)) (n + 1)) (drop (i + 1) p)
  unfolding absorb_bytes absorb_byte
  byte_law p l n i h = ap (absorb_bytes rate (sponge l n)) (drop-cons p i 0 h ∙ ap (λ (k : ℕ). at p i ∷ drop k p) (sym (add-one i)))

  -- bytes that the sponge has room for, and then the rest
  pub takes : (bs rest l : List ℕ) (n : ℕ) → 0 < length bs → n + length bs ≤ rate →
      absorb_bytes rate (sponge l n) (bs ++ rest) ≡ absorb_bytes rate (turn rate (xor_bytes l n bs) (n + length bs)) rest
  unfolding absorb_bytes absorb_byte xor_bytes
  takes [] rest l n h e = absurd (not-suc-le-zero h)
  takes (b ∷ []) rest l n h e = refl
  takes (b ∷ b' ∷ bs) rest l n h e =
      let more : n + 1 + length (b' ∷ bs) ≡ n + length (b ∷ b' ∷ bs) = omega arith in
      ap (λ (s : Sponge). absorb_bytes rate s (b' ∷ bs ++ rest)) (turn_more (xor_byte l n b) (n + 1) (λ q. omega arith))
      ∙ takes (b' ∷ bs) rest (xor_byte l n b) (n + 1) (omega arith) (omega arith)
      ∙ ap (λ (k : ℕ). absorb_bytes rate (turn rate (xor_bytes (xor_byte l n b) (n + 1) (b' ∷ bs)) k) rest) more

  -- bytes of one lane, of which none was added, and then the rest
  lane_law : (p l bs : List ℕ) (n i c : ℕ) → n % 8 ≡ 0 → 0 < c → n + c ≤ rate → take c (drop i p) ≡ bs → length bs ≡ c →
      absorb_bytes rate (sponge l n) (drop i p) ≡ absorb_bytes rate (turn rate (xor_bytes l (8 * (n / 8)) bs) (n + c)) (drop (i + c) p)
  lane_law p l bs n i c h some r e len =
      let whole : n ≡ 8 * (n / 8) = omega arith in
      ap (absorb_bytes rate (sponge l n)) (sym (take-append-drop c (drop i p)) ∙ ap₂ (λ (x y : List ℕ). x ++ y) e (drop-drop c i p))
      ∙ takes bs (drop (i + c) p) l n (omega arith) (omega arith)
      ∙ ap₂ (λ (k d : ℕ). absorb_bytes rate (turn rate (xor_bytes l k bs) (n + d)) (drop (i + c) p)) whole len

  pub word_law : (p l : List ℕ) (n i : ℕ) → n % 8 ≡ 0 → n + 8 ≤ rate → i + 8 ≤ length p →
      absorb_bytes rate (sponge l n) (drop i p) ≡ absorb_bytes rate (turn rate (set l (n / 8) (bit_xor (at l (n / 8)) (word_at p i))) (n + 8)) (drop (i + 8) p)
  unfolding word_at
  word_law p l n i h r g =
      lane_law p l _ n i 8 h (lit< tt) r (take_eight p i g) refl
      ∙ ap (λ (m : List ℕ). absorb_bytes rate (turn rate m (n + 8)) (drop (i + 8) p))
      (eight l (n / 8) (at p i) (at p (i + 1)) (at p (i + 2)) (at p (i + 3)) (at p (i + 4)) (at p (i + 5)) (at p (i + 6)) (at p (i + 7)))

  pub half_word_law : (p l : List ℕ) (n i : ℕ) → n % 8 ≡ 0 → n + 4 ≤ rate → i + 4 ≤ length p →
      absorb_bytes rate (sponge l n) (drop i p) ≡ absorb_bytes rate (turn rate (set l (n / 8) (bit_xor (at l (n / 8)) (half_word_at p i))) (n + 4)) (drop (i + 4) p)
  unfolding half_word_at
  half_word_law p l n i h r g =
      lane_law p l _ n i 4 h (lit< tt) r (take_four p i g) refl
      ∙ ap (λ (m : List ℕ). absorb_bytes rate (turn rate m (n + 4)) (drop (i + 4) p)) (four l (n / 8) (at p i) (at p (i + 1)) (at p (i + 2)) (at p (i + 3)))

  -- equals for equals in what is left to absorb
  pub moved : (p : List ℕ) {l l' : List ℕ} {n n' i i' : ℕ} → l ≡ l' → n ≡ n' → i ≡ i' →
      absorb_bytes rate (turn rate l n) (drop i p) ≡ absorb_bytes rate (turn rate l' n') (drop i' p)
  moved p q r s = cc

  module _ (p l : List ℕ) (i : ℕ) (g : i + rate ≤ length p) where
    -- one more word of a block
    more : (k : ℕ) → 8 * k + 8 ≤ rate →
        absorb_bytes rate (sponge (add_words l p i k) (8 * k)) (drop (i + 8 * k) p) ≡ absorb_bytes rate (turn rate (add_words l p i (suc k)) (8 * k + 8)) (drop (i + 8 * k + 8) p)
    unfolding add_words
    more k r =
        let m = add_words l p i k in
        let lane : 8 * k / 8 ≡ k = omega arith in
        word_law p m (8 * k) (i + 8 * k) (omega arith) r (omega arith)
        ∙ ap (λ (n : ℕ). absorb_bytes rate (turn rate (set m n (bit_xor (at m n) (word_at p (i + 8 * k)))) (8 * k + 8)) (drop (i + 8 * k + 8) p)) lane

    -- the first k words of a block, and the rest of the message
    first : (k : ℕ) → 8 * k < rate →
        absorb_bytes rate (sponge l 0) (drop i p) ≡ absorb_bytes rate (sponge (add_words l p i k) (8 * k)) (drop (i + 8 * k) p)
    unfolding add_words
    first zero r =
        let j : i ≡ i + 8 * 0 = omega arith in
        ap (λ (j : ℕ). absorb_bytes rate (sponge l 0) (drop j p)) j
    first (suc k) r =
        let n : 8 * k + 8 ≡ 8 * suc k = omega arith in
        let j : i + 8 * k + 8 ≡ i + 8 * suc k = omega arith in
        first k (omega arith)
        ∙ more k (omega arith)
        ∙ moved p refl n j
        ∙ ap (λ (s : Sponge). absorb_bytes rate s (drop (i + 8 * suc k) p)) (turn_more (add_words l p i (suc k)) (8 * suc k) (λ q. omega arith))

    -- a whole block
    pub block_law : Rate rate →
        absorb_bytes rate (sponge l 0) (drop i p) ≡ absorb_bytes rate (turn rate (add_words l p i (rate / 8)) rate) (drop (i + rate) p)
    block_law R =
        let k = rate / 8 - 1 in
        let lanes : suc k ≡ rate / 8 = omega (arith, R.some, R.whole) in
        let full : 8 * k + 8 ≡ rate = omega (arith, R.some, R.whole) in
        let next : i + 8 * k + 8 ≡ i + rate = omega (arith, full) in
        first k (omega arith) ∙ more k (omega arith) ∙ moved p (ap (add_words l p i) lanes) full next

  -- a message in two pieces is the message
  pub absorb_append : (s : Sponge) (p q : List ℕ) → absorb_bytes rate s (p ++ q) ≡ absorb_bytes rate (absorb_bytes rate s p) q
  unfolding absorb_bytes
  absorb_append s [] q = refl
  absorb_append s (b ∷ p) q = absorb_append (absorb_byte rate s b) p q

  -- a sponge has room at the start
  pub start_fill : {s : Sponge} → s ≡ empty → Rate rate → s.fill < rate
  unfolding empty
  start_fill e R = subst (λ (s : Sponge). s.fill < rate) (sym e) R.some
