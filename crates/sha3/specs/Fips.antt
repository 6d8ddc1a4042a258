-- SHA3 as FIPS 202 has it, on whole bytes: the sponge construction over the whole padded message.
use Rattle.std.specs.Prelude.{List, [], ◌∷◌, ◌++◌, ℕ, zero, suc, ◌+◌, ◌-◌, ◌*◌, ◌/◌, ◌%◌, ◌≤◌, ◌≡◌, length, take, drop, replicate}
use Rattle.std.specs.Int.Bits.{bit_xor}
use Rattle.keccak.specs.Keccak.{keccak_f}
use Rattle.sha3.specs.Sha3.{Bytes, Rate, squeeze, digest}

-- Section B.1: the number that bytes make, the lowest first.
unfoldable pub le : List ℕ → ℕ
le [] = 0
le (b ∷ bs) = b + 256 * le bs

-- Sections 3.1.2 and 4, step 6: a block, with zeros behind it, added to the lanes, eight bytes to a lane.
unfoldable pub xor_block : List ℕ → List ℕ → List ℕ
xor_block [] p = []
xor_block (x ∷ xs) p = bit_xor x (le (take 8 p)) ∷ xor_block xs (drop 8 p)

-- Section 4, step 6: the first n blocks of p, each added and followed by the permutation.
unfoldable pub absorb_blocks : ℕ → ℕ → List ℕ → List ℕ → List ℕ
absorb_blocks rate zero l p = l
absorb_blocks rate (suc n) l p = absorb_blocks rate n (keccak_f (xor_block l (take rate p))) (drop rate p)

-- Section 4, steps 7 to 10: n blocks of output, the state permuted between them.
unfoldable pub output_blocks : ℕ → ℕ → List ℕ → List ℕ
output_blocks rate zero l = []
output_blocks rate (suc n) l = squeeze l rate ++ output_blocks rate n (keccak_f l)

-- Sections 5.1, 6.1 and B.2: the q bytes that end a message, which are the suffix 01, a 1, zeros and a 1.
unfoldable pub pad : ℕ → List ℕ
pad zero = []
pad (suc zero) = 0x86 ∷ []
pad (suc (suc q)) = 0x06 ∷ (replicate q 0 ++ (0x80 ∷ []))

-- Section 4: the padded message in blocks, from a state of zeros.
unfoldable pub absorbed : ℕ → List ℕ → List ℕ
absorbed rate m = absorb_blocks rate (length m / rate + 1) (replicate 25 0) (m ++ pad (rate - length m % rate))

-- Sections 4 and 6.1: the digest of d bytes.
unfoldable pub fips : ℕ → ℕ → List ℕ → List ℕ
fips rate d m = take d (output_blocks rate (d / rate + 1) (absorbed rate m))

-- The promise: at every rate the digest of the stream is FIPS 202's.
abbrev pub Agrees : Type 0
Agrees = (rate : ℕ) → Rate rate → (d : ℕ) (m : List ℕ) → d ≤ rate → Bytes m → digest rate d m ≡ fips rate d m
