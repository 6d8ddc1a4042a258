-- SHA3-224 and SHA3-256 as a stream: a sponge that takes its message a byte at a time. `Fips` has the standard's definition, over
-- the whole padded message, and the law `agrees` equates the two.
use Rattle.std.specs.Prelude.{Bool, true, false, List, [], ◌∷◌, ◌++◌, ℕ, zero, suc, ◌+◌, ◌-◌, ◌*◌, ◌/◌, ◌%◌, ◌^◌, ◌<◌, ◌≡◌, eqb, set, replicate}
use Rattle.std.specs.Int.Bits.{bit_xor}
use Rattle.keccak.specs.Keccak.{at, keccak_f}
use Rattle.sha3.specs.declared.Sponge.{Sponge}

-- the sponge that has these lanes, and n bytes of the block at hand
abbrev pub sponge : List ℕ → ℕ → Sponge
sponge l n = record { lanes = l; fill = n }

-- every element is a byte
abbrev pub Bytes : List ℕ → Type 0
Bytes m = (i : ℕ) → at m i < 256

-- Section 4: the rate, here in bytes, is below the width of 200 bytes. It is a whole number of lanes.
pub record Rate (rate : ℕ) : Type 0 where
  pub some : 0 < rate
  pub most : rate < 200
  pub whole : rate % 8 ≡ 0

-- Sections 3.1.2 and B.1: b added to byte n of the state, which is byte n % 8, from the low end, of lane n / 8.
unfoldable pub xor_byte : List ℕ → ℕ → ℕ → List ℕ
xor_byte l n b = set l (n / 8) (bit_xor (at l (n / 8)) (b * 2 ^ (n % 8 * 8)))

abbrev pub pick : {A : Type 0} → Bool → A → A → A
pick true a b = a
pick false a b = b

-- Section 4, step 6: the state is permuted once it has a block.
unfoldable pub turn : ℕ → List ℕ → ℕ → Sponge
turn rate l n = pick (eqb n rate) (record { lanes = keccak_f l; fill = 0 }) (record { lanes = l; fill = n })

-- a byte of the message
unfoldable pub absorb_byte : ℕ → Sponge → ℕ → Sponge
absorb_byte rate s b = turn rate (xor_byte s.lanes s.fill b) (s.fill + 1)

-- bytes of the message
unfoldable pub absorb_bytes : ℕ → Sponge → List ℕ → Sponge
absorb_bytes rate s [] = s
absorb_bytes rate s (b ∷ bs) = absorb_bytes rate (absorb_byte rate s b) bs

-- Section 4, step 5: the state before the message.
unfoldable pub empty : Sponge
empty = record { lanes = replicate 25 0; fill = 0 }

-- Sections 5.1 and 6.1: the suffix 01 and the pad 10*1 end the last block, which is then permuted.
unfoldable pub padded : ℕ → Sponge → List ℕ
padded rate s = keccak_f (xor_byte (xor_byte s.lanes s.fill 0x06) (rate - 1) 0x80)

-- Sections 3.1.3 and B.1: byte n of the state.
unfoldable pub byte_at : List ℕ → ℕ → ℕ
byte_at l n = at l (n / 8) / 2 ^ (n % 8 * 8) % 256

-- Section 4, step 8: the first n bytes of the state.
unfoldable pub squeeze : List ℕ → ℕ → List ℕ
squeeze l zero = []
squeeze l (suc n) = squeeze l n ++ (byte_at l n ∷ [])

-- the digest of d bytes
unfoldable pub digest : ℕ → ℕ → List ℕ → List ℕ
digest rate d m = squeeze (padded rate (absorb_bytes rate empty m)) d

-- Section 6.1: SHA3-224 has the capacity 448, so a rate of 144 bytes, and a digest of 28 bytes.
unfoldable pub sha3_224 : List ℕ → List ℕ
sha3_224 m = digest 144 28 m

-- Section 6.1: SHA3-256 has the capacity 512, so a rate of 136 bytes, and a digest of 32 bytes.
unfoldable pub sha3_256 : List ℕ → List ℕ
sha3_256 m = digest 136 32 m
