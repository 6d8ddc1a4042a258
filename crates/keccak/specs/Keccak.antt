-- Keccak-f[1600] of FIPS 202 on a state of 25 lanes of 64 bits (section 3.1.2). A lane is a number below 2^64 whose bit z is the
-- state's bit (x, y, z), and the lane of column x and row y stands at x + 5 y.
use Rattle.std.specs.Prelude.{List, [], ◌∷◌, map, ℕ, zero, suc, ◌+◌, ◌-◌, ◌*◌, ◌/◌, ◌%◌, ◌^◌, get_or, set}
use Rattle.std.specs.Int.Bits.{bit_and, bit_or, bit_xor}

abbrev pub at : List ℕ → ℕ → ℕ
at a i = get_or a i 0

-- the state whose lane i is f i
unfoldable pub lanes : (ℕ → ℕ) → List ℕ
lanes f =
    map f
    (0 ∷ 1 ∷ 2 ∷ 3 ∷ 4 ∷ 5 ∷ 6 ∷ 7 ∷ 8 ∷ 9 ∷ 10 ∷ 11 ∷ 12 ∷ 13 ∷ 14 ∷ 15 ∷ 16 ∷ 17 ∷ 18 ∷ 19 ∷ 20 ∷ 21 ∷ 22 ∷ 23 ∷ 24 ∷ [])

-- a lane whose bit z is the bit z - n, modulo 64, of x, for n below 64
unfoldable pub rotl : ℕ → ℕ → ℕ
rotl x zero = x
rotl x (suc n) = bit_or (x * 2 ^ suc n % 2 ^ 64) (x / 2 ^ (64 - suc n))

-- Section 3.2.1, step 1: the parity of column x.
unfoldable pub column : List ℕ → ℕ → ℕ
column a x = bit_xor (bit_xor (bit_xor (bit_xor (at a x) (at a (x + 5))) (at a (x + 10))) (at a (x + 15))) (at a (x + 20))

-- Section 3.2.1: each bit is added to the parities of the columns to its left and, one bit lower, to its right.
unfoldable pub theta : List ℕ → List ℕ
theta a = lanes (λ i. bit_xor (at a i) (bit_xor (column a ((i + 4) % 5)) (rotl (column a ((i + 1) % 5)) 1)))

-- Section 3.2.2, Table 2: the offsets modulo 64, at x + 5 y.
unfoldable pub rotation_offsets : List ℕ
rotation_offsets =
    0 ∷ 1 ∷ 62 ∷ 28 ∷ 27 ∷ 36 ∷ 44 ∷ 6 ∷ 55 ∷ 20 ∷ 3 ∷ 10 ∷ 43 ∷ 25 ∷ 39 ∷ 41 ∷ 45 ∷ 15 ∷ 21 ∷ 8 ∷ 18 ∷ 2 ∷ 61 ∷ 56 ∷ 14 ∷ []

-- Section 3.2.2: each lane is rotated by its offset.
unfoldable pub rho : List ℕ → List ℕ
rho a = lanes (λ i. rotl (at a i) (at rotation_offsets i))

-- Section 3.2.3: the lane of column x and row y comes from column x + 3 y, modulo 5, and row x.
unfoldable pub pi : List ℕ → List ℕ
pi a = lanes (λ i. at a ((i % 5 + 3 * (i / 5)) % 5 + 5 * (i % 5)))

-- the place k to the right of i in its row
abbrev pub right : ℕ → ℕ → ℕ
right k i = (i % 5 + k) % 5 + 5 * (i / 5)

abbrev pub not64 : ℕ → ℕ
not64 x = 2 ^ 64 - 1 - x

-- Section 3.2.4: each bit is added to a product of the two bits to its right in the row, the first of them complemented.
unfoldable pub chi : List ℕ → List ℕ
chi a = lanes (λ i. bit_xor (at a i) (bit_and (not64 (at a (right 1 i))) (at a (right 2 i))))

-- Section 3.2.5, step 4: the round constant is added to the lane of column 0 and row 0.
unfoldable pub iota : ℕ → List ℕ → List ℕ
iota c a = set a 0 (bit_xor (at a 0) c)

-- Section 3.2.5, steps 1 to 3: the round constants, RC[j] = rc(7 ir + j) at bit 2^j - 1, for the rounds 0 to 23.
unfoldable pub round_constants : List ℕ
round_constants =
    0x0000000000000001 ∷ 0x0000000000008082 ∷ 0x800000000000808a ∷ 0x8000000080008000 ∷ 0x000000000000808b ∷ 0x0000000080000001 ∷
    0x8000000080008081 ∷ 0x8000000000008009 ∷ 0x000000000000008a ∷ 0x0000000000000088 ∷ 0x0000000080008009 ∷ 0x000000008000000a ∷
    0x000000008000808b ∷ 0x800000000000008b ∷ 0x8000000000008089 ∷ 0x8000000000008003 ∷ 0x8000000000008002 ∷ 0x8000000000000080 ∷
    0x000000000000800a ∷ 0x800000008000000a ∷ 0x8000000080008081 ∷ 0x8000000000008080 ∷ 0x0000000080000001 ∷ 0x8000000080008008 ∷ []

-- Section 3.3: a round, Rnd, with the constant c.
unfoldable pub round : ℕ → List ℕ → List ℕ
round c a = iota c (chi (pi (rho (theta a))))

-- Section 3.3: the first n rounds.
unfoldable pub rounds : ℕ → List ℕ → List ℕ
rounds zero a = a
rounds (suc n) a = round (at round_constants n) (rounds n a)

-- Section 3.4: Keccak-f[1600] is Keccak-p[1600, 24].
unfoldable pub keccak_f : List ℕ → List ℕ
keccak_f a = rounds 24 a
