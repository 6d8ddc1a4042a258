-- A digest is the bytes of four lanes. `put_lane` puts those of one, and a word that is read is a lane exactly if the bytes read are the lane's:
-- so a digest may be written and compared lane by lane, and 32 bytes copied.
use mathlib.Core.Path.{◌≡◌, refl, sym, ap, ap₂, ◌∙◌}
use mathlib.Core.Bool.{Bool, true, false, ◌&&◌}
use mathlib.Core.List.{List, [], ◌∷◌, ◌++◌, append_assoc, append-nil}
use Prim.Native.Nat.{ℕ, zero, suc, ◌+◌, ◌*◌, ◌/◌, ◌%◌, ◌^◌, ◌≤◌, ◌<◌}
use native.Mathlib.Nat.{add-zero, add-suc, div-lt_iff_lt-mul}
use native.Mathlib.Omega.{arith}
use lib.Arith.{lt-one}
use lib.Dec.{eqb}
use lib.ListN.{length, set}
use lib.Pow.{shr-shr}
use lib.Seq.{take_all}
use borrow.Author.Tests.{eqb-true, eq-eqb}
use Rattle.laws.specs.Bytes.{Below}
use Rattle.laws.specs.Chunks.{piece, piece_join, length_piece, get_piece}
use Rattle.laws.specs.Tests.{equal, ◌and◌, same, same_iff, by_iff}
use Rattle.laws.specs.Writing as w
use Rattle.keccak.specs.Keccak.{at}
use Rattle.sha3.specs.Sha3.{squeeze}
use Rattle.sha3.specs.Word.{word_at, put_lane}
use Rattle.sha3.specs.Fips.{le}
use Rattle.sha3.proofs.Laws.{take_eight}
use Rattle.sha3.proofs.Squeeze.{length_squeeze, lane_byte}
use Rattle.sha3.proofs.Agree.{word_le}

-- the lowest n bytes of x, the lowest first
unfoldable low : ℕ → ℕ → List ℕ
low zero x = []
low (suc n) x = x % 256 ∷ low n (x / 256)

length_low : (n x : ℕ) → length (low n x) ≡ n
unfolding low
length_low zero x = refl
length_low (suc n) x = ap suc (length_low n (x / 256))

-- one byte more
low_more : (n x : ℕ) → low (suc n) x ≡ low n x ++ (x / 2 ^ (n * 8) % 256 ∷ [])
unfolding low
low_more zero x =
    let e : x % 256 ≡ x / 1 % 256 = omega arith in
    ap (λ (b : ℕ). b ∷ []) e
low_more (suc n) x =
    let e : 8 + n * 8 ≡ suc n * 8 = omega arith in
    ap (λ (l : List ℕ). x % 256 ∷ l)
    (low_more n (x / 256) ∙ ap (λ (b : ℕ). low n (x / 256) ++ (b % 256 ∷ [])) (shr-shr x 8 (n * 8) ∙ ap (λ (k : ℕ). x / 2 ^ k) e))

-- ---- the bytes of a digest

-- bytes of one more lane
lane_squeezed : (l : List ℕ) (k n : ℕ) → n ≤ 8 → squeeze l (8 * k + n) ≡ squeeze l (8 * k) ++ low n (at l k)
unfolding squeeze low
lane_squeezed l k zero h = ap (squeeze l) (add-zero (8 * k)) ∙ sym (append-nil (squeeze l (8 * k)))
lane_squeezed l k (suc n) h =
    ap (squeeze l) (add-suc (8 * k) n)
    ∙ ap₂ (λ (x : List ℕ) (b : ℕ). x ++ (b ∷ [])) (lane_squeezed l k n (omega arith)) (sym (lane_byte l k n (omega arith)))
    ∙ append_assoc (squeeze l (8 * k)) (low n (at l k)) (at l k / 2 ^ (n * 8) % 256 ∷ [])
    ∙ ap (λ (x : List ℕ). squeeze l (8 * k) ++ x) (sym (low_more n (at l k)))

-- ---- a digest that is written

lane_put : (out : List ℕ) (i x n : ℕ) → i + n ≤ length out → put_lane out i x n ≡ w.put out i (low n x)
unfolding put_lane low
lane_put out i x zero h = sym (w.put_none out i)
lane_put out i x (suc n) h =
    ap (λ (l : List ℕ). set l (i + n) (x / 2 ^ (n * 8) % 256)) (lane_put out i x n (omega arith))
    ∙ w.put_snoc out i (i + n) (low n x) (x / 2 ^ (n * 8) % 256) (omega (arith, length_low n x)) (omega arith)
    ∙ ap (w.put out i) (sym (low_more n x))

-- a lane is written behind those before it
lane_wrote : (l out a b : List ℕ) (i j k : ℕ) → i + 8 * k ≡ j → j + 8 ≤ length out → w.Wrote out i (squeeze l (8 * k)) a → b ≡ put_lane a j (at l k) 8 →
    w.Wrote out i (squeeze l (8 * k + 8)) b
lane_wrote l out a b i j k q h f e =
    let one : w.Wrote a j (low 8 (at l k)) b = w.wrote (e ∙ lane_put a j (at l k) 8 (omega (arith, f.long))) (omega (arith, f.long, length_low 8 (at l k))) in
    w.same (w.next f one (omega (arith, length_squeeze l (8 * k)))) (sym (lane_squeezed l k 8 (omega arith)))

pub digest_wrote : (l out a b c d : List ℕ) (i : ℕ) → i + 32 ≤ length out → a ≡ put_lane out i (at l 0) 8 → b ≡ put_lane a (i + 8) (at l 1) 8 →
    c ≡ put_lane b (i + 16) (at l 2) 8 → d ≡ put_lane c (i + 24) (at l 3) 8 → w.Wrote out i (squeeze l 32) d
unfolding squeeze
digest_wrote l out a b c d i h p q r s =
    lane_wrote l out c d i (i + 24) 3 (omega arith) (omega arith)
    (lane_wrote l out b c i (i + 16) 2 (omega arith) (omega arith)
    (lane_wrote l out a b i (i + 8) 1 (omega arith) (omega arith)
    (lane_wrote l out out a i i 0 (omega arith) (omega arith) (w.nothing out i (omega arith)) p) q) r) s

-- ---- a digest that is compared

-- the bytes of a number make it, and those that make it are its own
le_low : (n x : ℕ) → x < 256 ^ n → le (low n x) ≡ x
unfolding le low
le_low zero x h = sym (lt-one h)
le_low (suc n) x h =
    let small : x / 256 < 256 ^ n = (div-lt_iff_lt-mul {k = 256} {x = x} {y = 256 ^ n} (omega arith)).1 (omega arith) in
    omega (arith, le_low n (x / 256) small)

low_le : (l : List ℕ) → Below 256 l → low (length l) (le l) ≡ l
unfolding le low
low_le [] h = refl
low_le (b ∷ bs) h =
    let small : b < 256 = h 0 (omega arith) in
    let first : (b + 256 * le bs) % 256 ≡ b = omega arith in
    let rest : (b + 256 * le bs) / 256 ≡ le bs = omega arith in
    ap₂ (λ (x : ℕ) (l : List ℕ). x ∷ l) first (ap (low (length bs)) rest ∙ low_le bs (λ i k. h (suc i) (omega arith)))

-- two joins whose first parts are of one length
same_join : (a b c d : List ℕ) → length a ≡ length c → same (a ++ b) (c ++ d) ≡ (same a c && same b d)
unfolding same ◌and◌
same_join [] b [] d e = refl
same_join [] b (y ∷ c) d e = absurd (omega arith)
same_join (x ∷ a) b [] d e = absurd (omega arith)
same_join (x ∷ a) b (y ∷ c) d e = go (equal x y) (same a c) (same b d) (same_join a b c d (omega arith))
  where
    go : (t v z : Bool) {u : Bool} → u ≡ (v && z) → (t and u) ≡ ((t and v) && z)
    go true v z h = h
    go false v z h = refl

module _ (s : List ℕ) (bytes : (k : ℕ) → at s k < 256) where
  word_is : (i : ℕ) → i + 8 ≤ length s → word_at s i ≡ le (piece s i 8)
  unfolding word_at
  word_is i h =
      word_le (at s i) (at s (i + 1)) (at s (i + 2)) (at s (i + 3)) (at s (i + 4)) (at s (i + 5)) (at s (i + 6)) (at s (i + 7)) (bytes i) (bytes (i + 1)) (bytes (i + 2)) (bytes (i + 3))
      (bytes (i + 4)) (bytes (i + 5)) (bytes (i + 6))
      ∙ ap le (sym (take_eight s i h))

  -- a word is a lane exactly if its bytes are the lane's
  word_same : (i v x : ℕ) → i + 8 ≤ length s → x < 2 ^ 64 → v ≡ word_at s i → eqb v x ≡ same (low 8 x) (piece s i 8)
  word_same i v x h f e =
      let long : length (piece s i 8) ≡ 8 = length_piece s i 8 h in
      let is : v ≡ le (piece s i 8) = e ∙ word_is i h in
      let all : low 8 (le (piece s i 8)) ≡ piece s i 8 =
      ap (λ (n : ℕ). low n (le (piece s i 8))) (sym long) ∙ low_le (piece s i 8) (λ j k. omega (arith, get_piece s i 8 j (omega arith), bytes (i + j))) in
      by_iff (eqb v x) (same (low 8 x) (piece s i 8))
      (λ t. (same_iff (low 8 x) (piece s i 8)).1 (ap (low 8) (sym (eqb-true v x t) ∙ is) ∙ all))
      (λ t. eq-eqb v x (is ∙ ap le (sym ((same_iff (low 8 x) (piece s i 8)).0 t)) ∙ le_low 8 x f))

  -- a lane is compared, and those before it
  lane_same : (l : List ℕ) (t : Bool) (i j k v : ℕ) → i + 8 * k ≡ j → j + 8 ≤ length s → at l k < 2 ^ 64 → t ≡ same (squeeze l (8 * k)) (piece s i (8 * k)) → v ≡ word_at s j →
      (t && eqb v (at l k)) ≡ same (squeeze l (8 * k + 8)) (piece s i (8 * k + 8))
  lane_same l t i j k v q h f g e =
      let long : length (squeeze l (8 * k)) ≡ length (piece s i (8 * k)) = length_squeeze l (8 * k) ∙ sym (length_piece s i (8 * k) (omega arith)) in
      let next : eqb v (at l k) ≡ same (low 8 (at l k)) (piece s (i + 8 * k) 8) = word_same (i + 8 * k) v (at l k) (omega arith) f (e ∙ ap (word_at s) (sym q)) in
      ap₂ (λ (x y : Bool). x && y) g next
      ∙ sym (same_join (squeeze l (8 * k)) (low 8 (at l k)) (piece s i (8 * k)) (piece s (i + 8 * k) 8) long)
      ∙ ap₂ same (sym (lane_squeezed l k 8 (omega arith))) (piece_join s i (8 * k) 8)

  pub digest_same : (l : List ℕ) (i a b c d : ℕ) → ((k : ℕ) → at l k < 2 ^ 64) → i + 32 ≤ length s → a ≡ word_at s i → b ≡ word_at s (i + 8) →
      c ≡ word_at s (i + 16) → d ≡ word_at s (i + 24) →
      (((eqb a (at l 0) && eqb b (at l 1)) && eqb c (at l 2)) && eqb d (at l 3)) ≡ same (squeeze l 32) (piece s i 32)
  unfolding squeeze same
  digest_same l i a b c d small h p q r t =
      lane_same l _ i (i + 24) 3 d (omega arith) (omega arith) (small 3)
      (lane_same l _ i (i + 16) 2 c (omega arith) (omega arith) (small 2)
      (lane_same l _ i (i + 8) 1 b (omega arith) (omega arith) (small 1)
      (lane_same l true i i 0 a (omega arith) (omega arith) (small 0) refl p) q) r) t

  -- the bytes of the words that are read, one lane more
  lane_copied : (l : List ℕ) (i k : ℕ) → i + (8 * k + 8) ≤ length s → squeeze l (8 * k) ≡ piece s i (8 * k) → at l k ≡ word_at s (i + 8 * k)
      → squeeze l (8 * k + 8) ≡ piece s i (8 * k + 8)
  lane_copied l i k h g e =
      let j = i + 8 * k in
      let long : length (piece s j 8) ≡ 8 = length_piece s j 8 (omega arith) in
      let all : low 8 (le (piece s j 8)) ≡ piece s j 8 =
      ap (λ (n : ℕ). low n (le (piece s j 8))) (sym long) ∙ low_le (piece s j 8) (λ n m. omega (arith, get_piece s j 8 n (omega arith), bytes (j + n))) in
      lane_squeezed l k 8 (omega arith) ∙ ap₂ (λ (x y : List ℕ). x ++ y) g (ap (low 8) (e ∙ word_is j (omega arith)) ∙ all) ∙ piece_join s i (8 * k) 8

  -- .. and of four
  pub words_copied : (l : List ℕ) → length s ≡ 32 → at l 0 ≡ word_at s 0 → at l 1 ≡ word_at s 8 → at l 2 ≡ word_at s 16 → at l 3 ≡ word_at s 24
      → squeeze l 32 ≡ s
  unfolding squeeze
  words_copied l h p q r t =
      lane_copied l 0 3 (omega arith) (lane_copied l 0 2 (omega arith) (lane_copied l 0 1 (omega arith) (lane_copied l 0 0 (omega arith) refl p) q) r) t
      ∙ take_all 32 s (omega arith)
