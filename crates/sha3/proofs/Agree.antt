-- The digest a byte at a time is the digest of FIPS 202, a block at a time.
use mathlib.Core.Path.{◌≡◌, refl, sym, ap, ap₂, ◌∙◌}
use mathlib.Core.List.{List, [], ◌∷◌, ◌++◌}
use Prim.Native.Nat.{ℕ, zero, suc, ◌+◌, ◌-◌, ◌*◌, ◌/◌, ◌%◌, ◌^◌, ◌≤◌, ◌<◌}
use native.Mathlib.Nat.{not-suc-le-zero, add-zero, zero-add, zero-mul, suc-mul, div-add-mod', mod-lt}
use native.Mathlib.Numerals.{add-one}
use native.Mathlib.Omega.{arith}
use lib.Bits.{bit_xor, xor_comm, xor_shifted, xor_zero_r, xor_block as xor_of_blocks}
use lib.Pow.{pow_pos}
use lib.Dec.{lit<}
use lib.ListN.{length, set, take, drop, replicate, length-append, length-set, length-replicate, length-drop, take-append-drop}
use lib.Seq.{set-set, set-get_or, get_or-set_same, take_all, take-append-le, drop-append-le, length-take-le}
use Rattle.keccak.specs.Keccak.{at, lanes, keccak_f, rounds, round_constants, round, iota, chi, pi, rho, theta}
use Rattle.sha3.specs.declared.Sponge.{Sponge}
use Rattle.sha3.specs.Sha3.{Bytes, Rate, sponge, xor_byte, absorb_byte, absorb_bytes, empty, padded, squeeze, digest, sha3_224, sha3_256}
use Rattle.sha3.specs.Fips.{le, xor_block, absorb_blocks, output_blocks, pad, absorbed, fips, Agrees}
use Rattle.sha3.proofs.Laws.{xor_bytes, eight}
use Rattle.keccak.proofs.Xor.{xor_assoc}
use Rattle.sha3.proofs.Taking.{turn_full, turn_more, takes}
use Rattle.sha3.proofs.Squeeze.{length_squeeze, take_squeeze}

-- every element is a byte, element by element
abbrev Each : List ℕ → Type 0
Each [] = Unit
Each (b ∷ bs) = (b < 256) × Each bs

each : (m : List ℕ) → Bytes m → Each m
each [] h = tt
each (b ∷ bs) h = (h 0, each bs (λ i. h (suc i)))

bytes_append : (xs ys : List ℕ) → Each xs → Each ys → Each (xs ++ ys)
bytes_append [] ys h k = k
bytes_append (x ∷ xs) ys h k = (h.0, bytes_append xs ys h.1 k)

bytes_take : (n : ℕ) (xs : List ℕ) → Each xs → Each (take n xs)
bytes_take zero xs h = tt
bytes_take (suc n) [] h = tt
bytes_take (suc n) (x ∷ xs) h = (h.0, bytes_take n xs h.1)

bytes_drop : (n : ℕ) (xs : List ℕ) → Each xs → Each (drop n xs)
bytes_drop zero xs h = h
bytes_drop (suc n) [] h = tt
bytes_drop (suc n) (x ∷ xs) h = bytes_drop n xs h.1

bytes_zeros : (n : ℕ) → Each (replicate n 0)
bytes_zeros zero = tt
bytes_zeros (suc n) = (omega arith, bytes_zeros n)

bytes_pad : (q : ℕ) → Each (pad q)
unfolding pad
bytes_pad zero = tt
bytes_pad (suc zero) = (omega arith, tt)
bytes_pad (suc (suc q)) = (omega arith, bytes_append (replicate q 0) (0x80 ∷ []) (bytes_zeros q) (omega arith, tt))

length_pad : (q : ℕ) → length (pad q) ≡ q
unfolding pad
length_pad zero = refl
length_pad (suc zero) = refl
length_pad (suc (suc q)) = simp (length-append, length-replicate) (omega arith)

-- ---- a block is its bytes

-- the word that eight bytes make
xor_shl : (k b low : ℕ) → low < 2 ^ k → bit_xor low (b * 2 ^ k) ≡ b * 2 ^ k + low
xor_shl k b low h = xor_comm low (b * 2 ^ k) ∙ xor_shifted b k low h

more : (k b x y : ℕ) → x ≡ y → y < 2 ^ k → bit_xor x (b * 2 ^ k) ≡ b * 2 ^ k + y
more k b x y e h = ap (λ (z : ℕ). bit_xor z (b * 2 ^ k)) e ∙ xor_shl k b y h

pub word_le : (b0 b1 b2 b3 b4 b5 b6 b7 : ℕ) → b0 < 256 → b1 < 256 → b2 < 256 → b3 < 256 → b4 < 256 → b5 < 256 → b6 < 256 →
    bit_xor
    (bit_xor (bit_xor (bit_xor (bit_xor (bit_xor (bit_xor b0 (b1 * 2 ^ 8)) (b2 * 2 ^ 16)) (b3 * 2 ^ 24)) (b4 * 2 ^ 32)) (b5 * 2 ^ 40)) (b6 * 2 ^ 48))
    (b7 * 2 ^ 56)
    ≡ le (b0 ∷ b1 ∷ b2 ∷ b3 ∷ b4 ∷ b5 ∷ b6 ∷ b7 ∷ [])
unfolding le
word_le b0 b1 b2 b3 b4 b5 b6 b7 h0 h1 h2 h3 h4 h5 h6 =
    more 56 b7 _ (b6 * 2 ^ 48 + (b5 * 2 ^ 40 + (b4 * 2 ^ 32 + (b3 * 2 ^ 24 + (b2 * 2 ^ 16 + (b1 * 2 ^ 8 + b0))))))
    (more 48 b6 _ (b5 * 2 ^ 40 + (b4 * 2 ^ 32 + (b3 * 2 ^ 24 + (b2 * 2 ^ 16 + (b1 * 2 ^ 8 + b0)))))
    (more 40 b5 _ (b4 * 2 ^ 32 + (b3 * 2 ^ 24 + (b2 * 2 ^ 16 + (b1 * 2 ^ 8 + b0))))
    (more 32 b4 _ (b3 * 2 ^ 24 + (b2 * 2 ^ 16 + (b1 * 2 ^ 8 + b0)))
    (more 24 b3 _ (b2 * 2 ^ 16 + (b1 * 2 ^ 8 + b0)) (more 16 b2 _ (b1 * 2 ^ 8 + b0) (more 8 b1 b0 b0 refl (omega arith)) (omega arith)) (omega arith)) (omega arith))
    (omega arith))
    (omega arith))
    (omega arith)
    ∙ omega arith

append : (l : List ℕ) (n : ℕ) (xs ys : List ℕ) → xor_bytes l n (xs ++ ys) ≡ xor_bytes (xor_bytes l n xs) (n + length xs) ys
unfolding xor_bytes
append l n [] ys = ap (λ (k : ℕ). xor_bytes l k ys) (sym (add-zero n))
append l n (x ∷ xs) ys =
    let e : n + 1 + length xs ≡ n + suc (length xs) = omega arith in
    append (xor_byte l n x) (n + 1) xs ys ∙ ap (λ (k : ℕ). xor_bytes (xor_bytes (xor_byte l n x) (n + 1) xs) k ys) e

-- the bytes from the second lane on leave the first
later_one : (x : ℕ) (xs : List ℕ) (n b : ℕ) → xor_byte (x ∷ xs) (n + 8) b ≡ x ∷ xor_byte xs n b
unfolding xor_byte
later_one x xs n b =
    let d : (n + 8) / 8 ≡ suc (n / 8) = omega arith in
    let r : (n + 8) % 8 ≡ n % 8 = omega arith in
    ap₂ (λ (i j : ℕ). set (x ∷ xs) i (bit_xor (at (x ∷ xs) i) (b * 2 ^ (j * 8)))) d r

later : (x : ℕ) (xs : List ℕ) (n : ℕ) (bs : List ℕ) → xor_bytes (x ∷ xs) (n + 8) bs ≡ x ∷ xor_bytes xs n bs
unfolding xor_bytes
later x xs n [] = refl
later x xs n (b ∷ bs) =
    let e : n + 8 + 1 ≡ n + 1 + 8 = omega arith in
    ap₂ (λ (l : List ℕ) (k : ℕ). xor_bytes l k bs) (later_one x xs n b) e ∙ later x (xor_byte xs n b) (n + 1) bs

none : (l : List ℕ) → l ≡ xor_block l []
unfolding xor_block le
none [] = refl
none (x ∷ xs) = ap₂ (λ (y : ℕ) (ys : List ℕ). y ∷ ys) (sym (xor_zero_r x)) (none xs)

block_is : (w : ℕ) (l b : List ℕ) → length b ≡ 8 * w → w ≤ length l → Each b → xor_bytes l 0 b ≡ xor_block l b
unfolding xor_bytes xor_block
block_is w l [] e h k = none l
block_is w [] (b ∷ bs) e h k = absurd (omega arith)
block_is w (x ∷ xs) (b0 ∷ b1 ∷ b2 ∷ b3 ∷ b4 ∷ b5 ∷ b6 ∷ b7 ∷ bs) e h k =
    append (x ∷ xs) 0 (b0 ∷ b1 ∷ b2 ∷ b3 ∷ b4 ∷ b5 ∷ b6 ∷ b7 ∷ []) bs
    ∙ ap (λ (l : List ℕ). xor_bytes l 8 bs)
    (eight (x ∷ xs) 0 b0 b1 b2 b3 b4 b5 b6 b7
    ∙ ap (λ (z : ℕ). bit_xor x z ∷ xs)
    (word_le b0 b1 b2 b3 b4 b5 b6 b7 k.0 k.1.0 k.1.1.0 k.1.1.1.0 k.1.1.1.1.0 k.1.1.1.1.1.0 k.1.1.1.1.1.1.0))
    ∙ later (bit_xor x (le (b0 ∷ b1 ∷ b2 ∷ b3 ∷ b4 ∷ b5 ∷ b6 ∷ b7 ∷ []))) xs 0 bs
    ∙ ap (λ (l : List ℕ). bit_xor x (le (b0 ∷ b1 ∷ b2 ∷ b3 ∷ b4 ∷ b5 ∷ b6 ∷ b7 ∷ [])) ∷ l)
    (block_is (w - 1) xs bs (omega arith) (omega arith) k.1.1.1.1.1.1.1.1)
block_is w (x ∷ xs) (a ∷ []) e h k = absurd (omega arith)
block_is w (x ∷ xs) (a ∷ b ∷ []) e h k = absurd (omega arith)
block_is w (x ∷ xs) (a ∷ b ∷ c ∷ []) e h k = absurd (omega arith)
block_is w (x ∷ xs) (a ∷ b ∷ c ∷ d ∷ []) e h k = absurd (omega arith)
block_is w (x ∷ xs) (a ∷ b ∷ c ∷ d ∷ f ∷ []) e h k = absurd (omega arith)
block_is w (x ∷ xs) (a ∷ b ∷ c ∷ d ∷ f ∷ g ∷ []) e h k = absurd (omega arith)
block_is w (x ∷ xs) (a ∷ b ∷ c ∷ d ∷ f ∷ g ∷ i ∷ []) e h k = absurd (omega arith)

-- ---- the pad

pub zero_byte : (l : List ℕ) (n : ℕ) → xor_byte l n 0 ≡ l
unfolding xor_byte
zero_byte l n =
    ap (λ (z : ℕ). set l (n / 8) (bit_xor (at l (n / 8)) z)) (zero-mul (2 ^ (n % 8 * 8))) ∙ ap (set l (n / 8)) (xor_zero_r (at l (n / 8))) ∙ set-get_or l (n / 8) 0

zeros : (q : ℕ) (l : List ℕ) (n : ℕ) (ys : List ℕ) → xor_bytes l n (replicate q 0 ++ ys) ≡ xor_bytes l (n + q) ys
unfolding xor_bytes
zeros zero l n ys = ap (λ (k : ℕ). xor_bytes l k ys) (sym (add-zero n))
zeros (suc q) l n ys =
    let e : n + 1 + q ≡ n + suc q = omega arith in
    ap (λ (m : List ℕ). xor_bytes m (n + 1) (replicate q 0 ++ ys)) (zero_byte l n) ∙ zeros q l (n + 1) ys ∙ ap (λ (k : ℕ). xor_bytes l k ys) e

-- both ends of the pad in one byte
both_ends : (e : ℕ) → bit_xor (6 * 2 ^ e) (128 * 2 ^ e) ≡ 134 * 2 ^ e
both_ends e =
    ap₂ bit_xor (sym (add-zero (6 * 2 ^ e))) (sym (add-zero (128 * 2 ^ e))) ∙ xor_of_blocks e 6 128 0 0 (pow_pos e) (pow_pos e) ∙ add-zero (134 * 2 ^ e)

one_byte : (l : List ℕ) (n : ℕ) → n / 8 < length l → xor_byte l n 134 ≡ xor_byte (xor_byte l n 6) n 128
unfolding xor_byte
one_byte l n h =
    let k = n / 8 in
    let e = n % 8 * 8 in
    let v = bit_xor (at l k) (6 * 2 ^ e) in
    ap (set l k) (ap (bit_xor (at l k)) (sym (both_ends e)) ∙ sym (xor_assoc (at l k) (6 * 2 ^ e) (128 * 2 ^ e)) ∙ ap (λ (z : ℕ). bit_xor z (128 * 2 ^ e)) (sym (get_or-set_same l k v 0 h)))
    ∙ sym (set-set l k v (bit_xor (at (set l k v) k) (128 * 2 ^ e)))

pad_is : (rate : ℕ) (l : List ℕ) (n q : ℕ) → n + q ≡ rate → 0 < q → n / 8 < length l → xor_bytes l n (pad q) ≡ xor_byte (xor_byte l n 6) (rate - 1) 128
unfolding pad xor_bytes
pad_is rate l n zero e h f = absurd (not-suc-le-zero h)
pad_is rate l n (suc zero) e h f =
    let g : n ≡ rate - 1 = omega arith in
    one_byte l n f ∙ ap (λ (k : ℕ). xor_byte (xor_byte l n 6) k 128) g
pad_is rate l n (suc (suc q)) e h f =
    let g : n + 1 + q ≡ rate - 1 = omega arith in
    zeros q (xor_byte l n 6) (n + 1) (0x80 ∷ []) ∙ ap (λ (k : ℕ). xor_byte (xor_byte l n 6) k 128) g

-- ---- lengths

length_round : (c : ℕ) (a : List ℕ) → length (round c a) ≡ 25
unfolding round iota chi lanes
length_round c a = length-set (chi (pi (rho (theta a)))) 0 (bit_xor (at (chi (pi (rho (theta a)))) 0) c)

length_keccak_f : (a : List ℕ) → length (keccak_f a) ≡ 25
unfolding keccak_f rounds
length_keccak_f a = length_round (at round_constants 23) (rounds 23 a)

length_xor_bytes : (l : List ℕ) (n : ℕ) (bs : List ℕ) → length (xor_bytes l n bs) ≡ length l
unfolding xor_bytes xor_byte
length_xor_bytes l n [] = refl
length_xor_bytes l n (b ∷ bs) = length_xor_bytes (xor_byte l n b) (n + 1) bs ∙ length-set l (n / 8) (bit_xor (at l (n / 8)) (b * 2 ^ (n % 8 * 8)))

-- ---- the two ways agree

module _ (rate : ℕ) (R : Rate rate) where
  -- bytes that do not fill the sponge
  part : (bs l : List ℕ) (n : ℕ) → n + length bs < rate → absorb_bytes rate (sponge l n) bs ≡ sponge (xor_bytes l n bs) (n + length bs)
  unfolding absorb_bytes absorb_byte xor_bytes
  part [] l n h = ap (sponge l) (sym (add-zero n))
  part (b ∷ bs) l n h =
      let e : n + 1 + length bs ≡ n + suc (length bs) = omega arith in
      ap (λ (s : Sponge). absorb_bytes rate s bs) (turn_more rate (xor_byte l n b) (n + 1) (λ q. omega arith))
      ∙ part bs (xor_byte l n b) (n + 1) (omega arith)
      ∙ ap (sponge (xor_bytes (xor_byte l n b) (n + 1) bs)) e

  -- the last block
  last : (l m : List ℕ) → length l ≡ 25 → length m < rate → Each m →
      padded rate (absorb_bytes rate (sponge l 0) m) ≡ absorb_blocks rate 1 l (m ++ pad (rate - length m))
  unfolding padded absorb_blocks
  last l m e h k =
      let q = rate - length m in
      let x = xor_bytes l 0 m in
      let lx : length x ≡ 25 = length_xor_bytes l 0 m ∙ e in
      let lp : length (m ++ pad q) ≡ rate = simp (length-append, length_pad) (omega arith) in
      ap (padded rate) (part m l 0 (omega arith))
      ∙ ap keccak_f
      (sym (pad_is rate x (0 + length m) q (omega arith) (omega arith) (omega arith))
      ∙ sym (append l 0 m (pad q))
      ∙ block_is (rate / 8) l (m ++ pad q) (omega arith) (omega arith) (bytes_append m (pad q) k (bytes_pad q))
      ∙ ap (xor_block l) (sym (take_all rate (m ++ pad q) (omega arith))))

  all : (n r : ℕ) (l m : List ℕ) → length l ≡ 25 → length m ≡ n * rate + r → r < rate → Each m →
      padded rate (absorb_bytes rate (sponge l 0) m) ≡ absorb_blocks rate (suc n) l (m ++ pad (rate - r))
  unfolding absorb_blocks
  all zero r l m e h f k =
      let g : length m ≡ r = h ∙ ap (λ (z : ℕ). z + r) (zero-mul rate) ∙ zero-add r in
      last l m e (omega arith) k ∙ ap (λ (z : ℕ). absorb_blocks rate 1 l (m ++ pad (rate - z))) g
  all (suc n) r l m e h f k =
      let s : suc n * rate ≡ n * rate + rate = suc-mul n rate in
      let big : rate ≤ length m = omega arith in
      let t : length (take rate m) ≡ rate = length-take-le rate m big in
      let d : length (drop rate m) ≡ n * rate + r = length-drop rate m ∙ omega arith in
      let b : xor_bytes l 0 (take rate m) ≡ xor_block l (take rate m) = block_is (rate / 8) l (take rate m) (omega arith) (omega arith) (bytes_take rate m k) in
      ap (λ (z : List ℕ). padded rate (absorb_bytes rate (sponge l 0) z)) (sym (take-append-drop rate m))
      ∙ ap (padded rate)
      (takes rate (take rate m) (drop rate m) l 0 (omega arith) (omega arith)
      ∙ ap (λ (z : Sponge). absorb_bytes rate z (drop rate m)) (turn_full rate (xor_bytes l 0 (take rate m)) (0 + length (take rate m)) (omega arith)))
      ∙ all n r (keccak_f (xor_bytes l 0 (take rate m))) (drop rate m) (length_keccak_f (xor_bytes l 0 (take rate m))) d f (bytes_drop rate m k)
      ∙ ap₂ (λ (x y : List ℕ). absorb_blocks rate (suc n) (keccak_f x) y)
      (b ∙ ap (xor_block l) (sym (take-append-le rate m (pad (rate - r)) big)))
      (sym (drop-append-le rate m (pad (rate - r)) big))

  -- the state once the message is in
  absorbed_is : (m : List ℕ) → Bytes m → padded rate (absorb_bytes rate empty m) ≡ absorbed rate m
  unfolding absorbed empty
  absorbed_is m h =
      all (length m / rate) (length m % rate) (replicate 25 0) m refl (sym (div-add-mod' (length m) rate)) (mod-lt (length m) R.some) (each m h)
      ∙ ap (λ (n : ℕ). absorb_blocks rate n (replicate 25 0) (m ++ pad (rate - length m % rate))) (sym (add-one (length m / rate)))

  -- an output of at most one block
  output_is : (d : ℕ) (l : List ℕ) → d ≤ rate → take d (output_blocks rate (d / rate + 1) l) ≡ squeeze l d
  unfolding output_blocks
  output_is d l h =
      let e : rate ≡ d + (rate - d) = omega arith in
      ap (λ (n : ℕ). take d (output_blocks rate n l)) (add-one (d / rate))
      ∙ take-append-le d (squeeze l rate) (output_blocks rate (d / rate) (keccak_f l)) (omega (arith, length_squeeze l rate))
      ∙ ap (λ (n : ℕ). take d (squeeze l n)) e
      ∙ take_squeeze l d (rate - d)

-- the digest of the stream is FIPS 202's
pub agrees : Agrees
unfolding digest fips
agrees rate R d m h k = ap (λ (l : List ℕ). squeeze l d) (absorbed_is rate R m k) ∙ sym (output_is rate R d (absorbed rate m) h)

-- the two rates
pub rate_224 : Rate 144
rate_224 = record { some = lit< tt; most = lit< tt; whole = refl }

pub rate_256 : Rate 136
rate_256 = record { some = lit< tt; most = lit< tt; whole = refl }

-- SHA3-224 and SHA3-256 are FIPS 202's
pub agrees_224 : (m : List ℕ) → Bytes m → sha3_224 m ≡ fips 144 28 m
unfolding sha3_224
agrees_224 m h = agrees 144 rate_224 28 m (omega arith) h

pub agrees_256 : (m : List ℕ) → Bytes m → sha3_256 m ≡ fips 136 32 m
unfolding sha3_256
agrees_256 m h = agrees 136 rate_256 32 m (omega arith) h
