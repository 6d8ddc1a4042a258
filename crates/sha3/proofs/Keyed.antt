-- A message of a key and at most 15 bytes behind it is one block, and its lanes are known: those of the key, the two that end the message,
-- and the last bit of the pad.
use mathlib.Core.Path.{◌≡◌, refl, sym, ap, ap₂, ◌∙◌}
use mathlib.Core.List.{List, [], ◌∷◌, ◌++◌}
use Prim.Native.Nat.{ℕ, zero, suc, ◌+◌, ◌-◌, ◌/◌, ◌%◌, ◌≤◌, ◌<◌}
use native.Mathlib.Nat.{add-zero}
use native.Mathlib.Omega.{arith}
use lib.Bits.{bit_xor}
use lib.ListN.{length, set, drop, replicate, length-append, length-replicate}
use lib.Seq.{drop-length}
use Rattle.keccak.specs.Keccak.{at, keccak_f}
use Rattle.keccak.specs.Rows.{row_at}
use Rattle.sha3.specs.declared.Sponge.{Sponge}
use Rattle.sha3.specs.Sha3.{sponge, xor_byte, absorb_byte, absorb_bytes, empty, padded, byte_at, squeeze, digest, sha3_256}
use Rattle.sha3.specs.Word.{word_at, keyed, keyed_row, ended}
use Rattle.sha3.proofs.Taking.{turn_more, word_law, absorb_append}
use Rattle.sha3.proofs.Agree.{zero_byte}

drop_none : (b : List ℕ) (k : ℕ) → length b ≡ k → drop k b ≡ []
drop_none b k e = ap (λ (i : ℕ). drop i b) (sym e) ∙ drop-length b

module _ (rate : ℕ) where
  -- bytes that leave room
  fill_law : (m l : List ℕ) (n : ℕ) → n + length m < rate → (absorb_bytes rate (sponge l n) m).fill ≡ n + length m
  unfolding absorb_bytes absorb_byte
  fill_law [] l n h = sym (add-zero n)
  fill_law (b ∷ m) l n h =
      let e : n + 1 + length m ≡ n + length (b ∷ m) = omega arith in
      ap (λ (s : Sponge). (absorb_bytes rate s m).fill) (turn_more rate (xor_byte l n b) (n + 1) (λ q. omega arith))
      ∙ fill_law m (xor_byte l n b) (n + 1) (omega arith) ∙ e

  zeros_law : (k : ℕ) (l : List ℕ) (n : ℕ) → n + k < rate → absorb_bytes rate (sponge l n) (replicate k 0) ≡ sponge l (n + k)
  unfolding absorb_bytes absorb_byte
  zeros_law zero l n h = ap (sponge l) (sym (add-zero n))
  zeros_law (suc k) l n h =
      let e : n + 1 + k ≡ n + suc k = omega arith in
      ap (λ (s : Sponge). absorb_bytes rate s (replicate k 0)) (turn_more rate (xor_byte l n 0) (n + 1) (λ q. omega arith) ∙ ap (λ (m : List ℕ). sponge m (n + 1)) (zero_byte l n))
      ∙ zeros_law k l (n + 1) (omega arith) ∙ ap (sponge l) e

  -- a byte and zeros behind it: the byte is all that changes a lane
  byte_and_zeros : (l : List ℕ) (n x k : ℕ) → n + 1 + k < rate → (absorb_bytes rate (sponge l n) (x ∷ replicate k 0)).lanes ≡ xor_byte l n x
  unfolding absorb_bytes absorb_byte
  byte_and_zeros l n x k h =
      ap (λ (s : Sponge). (absorb_bytes rate s (replicate k 0)).lanes) (turn_more rate (xor_byte l n x) (n + 1) (λ q. omega arith))
      ∙ ap (λ (s : Sponge). s.lanes) (zeros_law k (xor_byte l n x) (n + 1) h)

  -- a word that leaves room
  word_more : (p l : List ℕ) (n i : ℕ) → n % 8 ≡ 0 → n + 8 < rate → i + 8 ≤ length p →
      absorb_bytes rate (sponge l n) (drop i p) ≡ absorb_bytes rate (sponge (set l (n / 8) (bit_xor (at l (n / 8)) (word_at p i))) (n + 8)) (drop (i + 8) p)
  word_more p l n i w r h =
      word_law rate p l n i w (omega arith) h
      ∙ ap (λ (s : Sponge). absorb_bytes rate s (drop (i + 8) p)) (turn_more rate (set l (n / 8) (bit_xor (at l (n / 8)) (word_at p i))) (n + 8) (λ q. omega arith))

-- the lanes of the key
key_taken : (key : List ℕ) → length key ≡ 32 →
    absorb_bytes 136 empty key ≡ sponge (word_at key 0 ∷ word_at key 8 ∷ word_at key 16 ∷ word_at key 24 ∷ replicate 21 0) 32
unfolding absorb_bytes empty
key_taken key h =
    let l : ℕ → List ℕ = λ k. replicate k 0 in
    word_more 136 key (l 25) 0 0 refl (omega arith) (omega arith)
    ∙ word_more 136 key (word_at key 0 ∷ l 24) 8 8 refl (omega arith) (omega arith)
    ∙ word_more 136 key (word_at key 0 ∷ word_at key 8 ∷ l 23) 16 16 refl (omega arith) (omega arith)
    ∙ word_more 136 key (word_at key 0 ∷ word_at key 8 ∷ word_at key 16 ∷ l 22) 24 24 refl (omega arith) (omega arith)
    ∙ ap (absorb_bytes 136 (sponge (word_at key 0 ∷ word_at key 8 ∷ word_at key 16 ∷ word_at key 24 ∷ l 21) 32)) (drop_none key 32 h)

-- .. and of 16 bytes behind it
rest_taken : (key b : List ℕ) → length b ≡ 16 →
    absorb_bytes 136 (sponge (word_at key 0 ∷ word_at key 8 ∷ word_at key 16 ∷ word_at key 24 ∷ replicate 21 0) 32) b
    ≡ sponge (word_at key 0 ∷ word_at key 8 ∷ word_at key 16 ∷ word_at key 24 ∷ word_at b 0 ∷ word_at b 8 ∷ replicate 19 0) 48
unfolding absorb_bytes
rest_taken key b h =
    let k : List ℕ → List ℕ = λ l. word_at key 0 ∷ word_at key 8 ∷ word_at key 16 ∷ word_at key 24 ∷ l in
    word_more 136 b (k (replicate 21 0)) 32 0 refl (omega arith) (omega arith)
    ∙ word_more 136 b (k (word_at b 0 ∷ replicate 20 0)) 40 8 refl (omega arith) (omega arith)
    ∙ ap (absorb_bytes 136 (sponge (k (word_at b 0 ∷ word_at b 8 ∷ replicate 19 0)) 48)) (drop_none b 16 h)

-- the block, from the words that are read of the key
pub keyed_is : (key : List ℕ) (low high : ℕ) {a b c d : ℕ} → a ≡ word_at key 0 → b ≡ word_at key 8 → c ≡ word_at key 16 → d ≡ word_at key 24 →
    a ∷ b ∷ c ∷ d ∷ low ∷ high ∷ 0 ∷ 0 ∷ 0 ∷ 0 ∷ 0 ∷ 0 ∷ 0 ∷ 0 ∷ 0 ∷ 0 ∷ 0x8000000000000000 ∷ 0 ∷ 0 ∷ 0 ∷ 0 ∷ 0 ∷ 0 ∷ 0 ∷ 0 ∷ [] ≡ keyed key low high
unfolding keyed
keyed_is key low high p q r s = rw (p, q, r, s)

-- the first lanes of a state have its digest
row_squeezed : (l : List ℕ) → squeeze (row_at l 0) 32 ≡ squeeze l 32
unfolding squeeze byte_at row_at
row_squeezed l = refl

module _ (key m : List ℕ) (k : length key ≡ 32) (room : length m ≤ 15) where
  -- the sponge that has taken the message
  abbrev taken : Sponge
  taken = absorb_bytes 136 empty (key ++ m)

  abbrev behind : List ℕ
  behind = 0x06 ∷ replicate (15 - length m) 0

  abbrev key_lanes : List ℕ
  key_lanes = word_at key 0 ∷ word_at key 8 ∷ word_at key 16 ∷ word_at key 24 ∷ replicate 21 0

  long : length (ended m) ≡ 16
  unfolding ended
  long = omega (arith, length-append m behind, length-replicate {A = ℕ} (15 - length m) 0, room)

  start : taken ≡ absorb_bytes 136 (sponge key_lanes 32) m
  start = absorb_append 136 empty key m ∙ ap (λ (s : Sponge). absorb_bytes 136 s m) (key_taken key k)

  filled : taken.fill ≡ 32 + length m
  filled = ap (λ (s : Sponge). s.fill) start ∙ fill_law 136 m key_lanes 32 (omega (arith, room))

  -- with the byte behind it, it has the lanes of all 16 bytes
  all_lanes : xor_byte taken.lanes taken.fill 0x06
      ≡ word_at key 0 ∷ word_at key 8 ∷ word_at key 16 ∷ word_at key 24 ∷ word_at (ended m) 0 ∷ word_at (ended m) 8 ∷ replicate 19 0
  unfolding ended
  all_lanes =
      sym (byte_and_zeros 136 taken.lanes taken.fill 0x06 (15 - length m) (omega (arith, filled, room)))
      ∙ ap (λ (s : Sponge). s.lanes)
      (ap (λ (s : Sponge). absorb_bytes 136 s behind) start
      ∙ sym (absorb_append 136 (sponge key_lanes 32) m behind)
      ∙ rest_taken key (ended m) long)

  keyed_law : padded 136 taken ≡ keccak_f (keyed key (word_at (ended m) 0) (word_at (ended m) 8))
  unfolding padded keyed xor_byte
  keyed_law = ap (λ (l : List ℕ). keccak_f (xor_byte l 135 0x80)) all_lanes

  -- the digest, from the first lanes of the state
  pub keyed_digest : {row : List ℕ} {low high : ℕ} → row ≡ keyed_row key low high → low ≡ word_at (ended m) 0 → high ≡ word_at (ended m) 8
      → squeeze row 32 ≡ sha3_256 (key ++ m)
  unfolding sha3_256 digest keyed_row
  keyed_digest e l h =
      ap (λ (r : List ℕ). squeeze r 32) e
      ∙ row_squeezed _
      ∙ ap₂ (λ (x y : ℕ). squeeze (keccak_f (keyed key x y)) 32) l h
      ∙ ap (λ (r : List ℕ). squeeze r 32) (sym keyed_law)
