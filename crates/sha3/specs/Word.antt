-- Eight bytes at once: those of a message as the code adds them to a lane, and those of a lane as it writes them.
use Rattle.std.specs.Prelude.{List, [], ◌∷◌, ◌++◌, ℕ, zero, suc, ◌+◌, ◌-◌, ◌*◌, ◌/◌, ◌%◌, ◌^◌, length, set, replicate}
use Rattle.std.specs.Int.Bits.{bit_xor}
use Rattle.keccak.specs.Keccak.{at, keccak_f}
use Rattle.keccak.specs.Rows.{row_at}

-- the number that the eight bytes from i on make, the lowest first
unfoldable pub word_at : List ℕ → ℕ → ℕ
word_at p i =
    bit_xor
    (bit_xor
    (bit_xor
    (bit_xor
    (bit_xor (bit_xor (bit_xor (at p i) (at p (i + 1) * 2 ^ 8)) (at p (i + 2) * 2 ^ 16)) (at p (i + 3) * 2 ^ 24))
    (at p (i + 4) * 2 ^ 32))
    (at p (i + 5) * 2 ^ 40))
    (at p (i + 6) * 2 ^ 48))
    (at p (i + 7) * 2 ^ 56)

-- the number that the four bytes from i on make, the lowest first
unfoldable pub half_word_at : List ℕ → ℕ → ℕ
half_word_at p i = bit_xor (bit_xor (bit_xor (at p i) (at p (i + 1) * 2 ^ 8)) (at p (i + 2) * 2 ^ 16)) (at p (i + 3) * 2 ^ 24)

-- the state to whose first n lanes the eight bytes each from i on are added
unfoldable pub add_words : List ℕ → List ℕ → ℕ → ℕ → List ℕ
add_words l p i zero = l
add_words l p i (suc n) = set (add_words l p i n) n (bit_xor (at (add_words l p i n) n) (word_at p (i + 8 * n)))

-- a list with the first n bytes of a lane, the lowest first, from i on
unfoldable pub put_lane : List ℕ → ℕ → ℕ → ℕ → List ℕ
put_lane out i lane zero = out
put_lane out i lane (suc n) = set (put_lane out i lane n) (i + n) (lane / 2 ^ (n * 8) % 256)

-- the block of a key of 32 bytes and of the two lanes behind it, with the last bit of the pad, at the rate of SHA3-256
unfoldable pub keyed : List ℕ → ℕ → ℕ → List ℕ
keyed key low high =
    word_at key 0 ∷ word_at key 8 ∷ word_at key 16 ∷ word_at key 24 ∷ low ∷ high ∷ 0 ∷ 0 ∷ 0 ∷ 0 ∷ 0 ∷ 0 ∷ 0 ∷ 0 ∷ 0 ∷ 0 ∷
    0x8000000000000000 ∷ 0 ∷ 0 ∷ 0 ∷ 0 ∷ 0 ∷ 0 ∷ 0 ∷ 0 ∷ []

-- the first lanes of the state after that block, which have the digest
unfoldable pub keyed_row : List ℕ → ℕ → ℕ → List ℕ
keyed_row key low high = row_at (keccak_f (keyed key low high)) 0

-- 16 bytes that have the end m of a message, of at most 15 bytes, behind it the suffix 01 and the first bit of the pad, and then zeros
unfoldable pub ended : List ℕ → List ℕ
ended m = m ++ (0x06 ∷ replicate (15 - length m) 0)
