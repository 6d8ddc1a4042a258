-- Hexadecimal and decimal digits are read back: two hexadecimal digits give the byte, decimal digits the number; which characters they are, how many,
-- and where they are hashed for a draw.
use mathlib.Core.Path.{◌≡◌, refl, sym, ap, ◌∙◌}
use mathlib.Core.Logic.{◌⊎◌, inl, inr}
use mathlib.Core.Bool.{true, false}
use mathlib.Core.List.{List, [], ◌∷◌, ◌++◌}
use Prim.Native.Nat.{ℕ, zero, suc, ◌+◌, ◌-◌, ◌*◌, ◌/◌, ◌%◌, ◌^◌, ◌≤◌, ◌<◌}
use native.Mathlib.Nat.{not-suc-le-zero, div-lt_iff_lt-mul}
use native.Mathlib.Decide.{dec_le}
use native.Mathlib.Omega.{arith}
use lib.Arith.{lt-one}
use lib.ListN.{length, length-append, get_or-append}
use lib.Seq.{get_or_at, get_or-append-add}
use Rattle.laws.specs.Tests.{below, pick, is_below, not_below}
use Rattle.laws.specs.Bytes.{Below, number}
use Rattle.laws.specs.Chunks.{piece}
use Rattle.laws.specs.At.{number_piece}
use Rattle.sha3.specs.Sha3.{byte_at, squeeze, digest, sha3_224}
use Rattle.sha3.proofs.Digest.{sha3_224_length}
use Rattle.protocol.specs.Terms.{item, digits, decimal}
use Rattle.protocol.specs.Drawing.{hex_digit, hex_digits, challenge, draw_hash, list_hash, drawn_side}

-- what holds of each element, and of one behind them
each_snoc : (P : ℕ → Type 0) (l : List ℕ) (c : ℕ) → ((i : ℕ) → i < length l → P (item l i)) → P c → (i : ℕ) → i < length (l ++ (c ∷ [])) → P (item (l ++ (c ∷ [])) i)
each_snoc P l c h at i k = go (dec_le (length l) i)
  where
    go : Dec (length l ≤ i) → P (item (l ++ (c ∷ [])) i)
    go (yes m) = let e : length l ≡ i = omega (arith, length-append l (c ∷ [])) in rw (get_or_at l c [] 0 i e) at
    go (no m) = rw (get_or-append l (c ∷ []) 0 i (omega arith)) (h i (omega arith))

-- ---- hexadecimal digits

-- the value of a digit: '0' to '9' are 48 to 57, 'a' to 'f' 97 to 102
unfoldable pub hex_value : ℕ → ℕ
hex_value c = pick (below c 58) (c - 48) (c - 87)

-- the character is one of the sixteen digits
abbrev pub IsHex : ℕ → Type 0
IsHex c = ((48 ≤ c) × (c ≤ 57)) ⊎ ((97 ≤ c) × (c ≤ 102))

pub hex_is : (v : ℕ) → v < 16 → IsHex (hex_digit v)
unfolding hex_digit
hex_is v l = go (dec_le 10 v)
  where
    go : Dec (10 ≤ v) → IsHex (pick (below v 10) (48 + v) (87 + v))
    go (yes h) = let t : below v 10 ≡ false = not_below h in rw t (inr (omega arith, omega arith))
    go (no h) = let t : below v 10 ≡ true = is_below (omega arith) in rw t (inl (omega arith, omega arith))

pub hex_read : (v : ℕ) → v < 16 → hex_value (hex_digit v) ≡ v
unfolding hex_digit hex_value
hex_read v l = go (dec_le 10 v)
  where
    go : Dec (10 ≤ v) → hex_value (pick (below v 10) (48 + v) (87 + v)) ≡ v
    go (yes h) =
        let t : below v 10 ≡ false = not_below h in
        let u : below (87 + v) 58 ≡ false = not_below (omega arith) in
        rw (t, u) (omega arith)
    go (no h) =
        let t : below v 10 ≡ true = is_below (omega arith) in
        let u : below (48 + v) 58 ≡ true = is_below (omega arith) in
        rw (t, u) (omega arith)

-- "of every byte its two": two digits for each byte
pub length_hex : (l : List ℕ) → length (hex_digits l) ≡ 2 * length l
unfolding hex_digits
length_hex [] = refl
length_hex (b ∷ bs) = omega (arith, length_hex bs)

-- the digits of byte i: its sixteens, then its ones
pub hex_high : (l : List ℕ) (i : ℕ) → i < length l → item (hex_digits l) (2 * i) ≡ hex_digit (item l i / 16)
unfolding hex_digits
hex_high [] i h = absurd (not-suc-le-zero h)
hex_high (b ∷ bs) zero h = refl
hex_high (b ∷ bs) (suc i) h = let e : 2 * suc i ≡ suc (suc (2 * i)) = omega arith in rw e (hex_high bs i (omega arith))

pub hex_low : (l : List ℕ) (i : ℕ) → i < length l → item (hex_digits l) (2 * i + 1) ≡ hex_digit (item l i % 16)
unfolding hex_digits
hex_low [] i h = absurd (not-suc-le-zero h)
hex_low (b ∷ bs) zero h = refl
hex_low (b ∷ bs) (suc i) h = let e : 2 * suc i + 1 ≡ suc (suc (2 * i + 1)) = omega arith in rw e (hex_low bs i (omega arith))

-- two digits, read, are the byte
pub hex_byte_lem : (l : List ℕ) → Below 256 l → (i : ℕ) → i < length l
    → 16 * hex_value (item (hex_digits l) (2 * i)) + hex_value (item (hex_digits l) (2 * i + 1)) ≡ item l i
hex_byte_lem l small i h =
    let b : item l i < 256 = small i h in
    rw (hex_high l i h, hex_low l i h, hex_read (item l i / 16) (omega arith), hex_read (item l i % 16) (omega arith)) (omega arith)

pub hex_digits_lem : (l : List ℕ) → Below 256 l → (i : ℕ) → i < length (hex_digits l) → IsHex (item (hex_digits l) i)
unfolding hex_digits
hex_digits_lem [] small i h = absurd (not-suc-le-zero h)
hex_digits_lem (b ∷ bs) small zero h = hex_is (b / 16) (omega (arith, small 0 (omega arith)))
hex_digits_lem (b ∷ bs) small (suc zero) h = hex_is (b % 16) (omega arith)
hex_digits_lem (b ∷ bs) small (suc (suc i)) h = hex_digits_lem bs (λ j l. small (suc j) (omega arith)) i (omega arith)

-- ---- the 56 digits in a challenge

squeeze_below : (l : List ℕ) (n : ℕ) → Below 256 (squeeze l n)
unfolding squeeze byte_at
squeeze_below l zero i h = absurd (not-suc-le-zero h)
squeeze_below l (suc n) i h = each_snoc (λ c. c < 256) (squeeze l n) (byte_at l n) (squeeze_below l n) (omega arith) i h

pub sha3_224_below : (m : List ℕ) → Below 256 (sha3_224 m)
unfolding sha3_224 digest
sha3_224_below m = squeeze_below _ 28

-- "Q is the 30 characters followed by the 56 lower-case hexadecimal digits of the SHA3-224"
pub length_challenge : (dice prefix : List ℕ) → length (challenge dice prefix) ≡ length dice + 56
unfolding challenge
length_challenge dice prefix =
    omega (arith, length-append dice (hex_digits (sha3_224 prefix)), length_hex (sha3_224 prefix), sha3_224_length prefix)

pub challenge_dice : (dice prefix : List ℕ) (i : ℕ) → i < length dice → item (challenge dice prefix) i ≡ item dice i
unfolding challenge
challenge_dice dice prefix i l = get_or-append dice (hex_digits (sha3_224 prefix)) 0 i l

pub challenge_digits : (dice prefix : List ℕ) (i : ℕ) → item (challenge dice prefix) (length dice + i) ≡ item (hex_digits (sha3_224 prefix)) i
unfolding challenge
challenge_digits dice prefix i = get_or-append-add dice (hex_digits (sha3_224 prefix)) i 0

pub challenge_hex : (prefix : List ℕ) (i : ℕ) → i < 56 → IsHex (item (hex_digits (sha3_224 prefix)) i)
challenge_hex prefix i h = hex_digits_lem (sha3_224 prefix) (sha3_224_below prefix) i (omega (arith, length_hex (sha3_224 prefix), sha3_224_length prefix))

pub challenge_byte : (prefix : List ℕ) (i : ℕ) → i < 28
    → 16 * hex_value (item (hex_digits (sha3_224 prefix)) (2 * i)) + hex_value (item (hex_digits (sha3_224 prefix)) (2 * i + 1)) ≡ item (sha3_224 prefix) i
challenge_byte prefix i h = hex_byte_lem (sha3_224 prefix) (sha3_224_below prefix) i (omega (arith, sha3_224_length prefix))

-- ---- decimal digits

-- the number that decimal digits say, behind one that came before
abbrev pub read_from : ℕ → List ℕ → ℕ
read_from x [] = x
read_from x (c ∷ cs) = read_from (x * 10 + (c - 48)) cs

read_snoc : (x : ℕ) (l : List ℕ) (c : ℕ) → read_from x (l ++ (c ∷ [])) ≡ read_from x l * 10 + (c - 48)
read_snoc x [] c = refl
read_snoc x (d ∷ ds) c = read_snoc (x * 10 + (d - 48)) ds c

-- the number is its digits
digits_read : (k x : ℕ) → x < 10 ^ k → read_from 0 (digits k x) ≡ x
unfolding digits
digits_read zero x h = sym (lt-one h)
digits_read (suc k) x h = go (dec_le 10 x) (digits_read k (x / 10))
  where
    go : Dec (10 ≤ x) → (x / 10 < 10 ^ k → read_from 0 (digits k (x / 10)) ≡ x / 10)
        → read_from 0 (pick (below x 10) ((48 + x) ∷ []) (digits k (x / 10) ++ ((48 + x % 10) ∷ []))) ≡ x
    go (yes l) ih =
        let t : below x 10 ≡ false = not_below l in
        rw t (omega (arith, read_snoc 0 (digits k (x / 10)) (48 + x % 10), ih ((div-lt_iff_lt-mul {k = 10} {x = x} {y = 10 ^ k} (omega arith)).1 (omega arith))))
    go (no l) ih = let t : below x 10 ≡ true = is_below (omega arith) in rw t (omega arith)

pub decimal_read : (x : ℕ) → x < 10000000000 → read_from 0 (decimal x) ≡ x
unfolding decimal
decimal_read x h = digits_read 10 x h

-- so two numbers have not the same digits
pub decimal_apart : (x y : ℕ) → x < 10000000000 → y < 10000000000 → decimal x ≡ decimal y → x ≡ y
decimal_apart x y hx hy e = sym (decimal_read x hx) ∙ ap (read_from 0) e ∙ decimal_read y hy

-- each character is a digit
abbrev pub Decimal : List ℕ → Type 0
Decimal l = (i : ℕ) → i < length l → (48 ≤ item l i) × (item l i ≤ 57)

digits_are : (k x : ℕ) → Decimal (digits k x)
unfolding digits
digits_are zero x = λ i h. absurd (not-suc-le-zero h)
digits_are (suc k) x = go (dec_le 10 x) (digits_are k (x / 10))
  where
    one : x < 10 → Decimal ((48 + x) ∷ [])
    one l zero h = (omega arith, omega arith)
    one l (suc i) h = absurd (omega arith)

    go : Dec (10 ≤ x) → Decimal (digits k (x / 10)) → Decimal (pick (below x 10) ((48 + x) ∷ []) (digits k (x / 10) ++ ((48 + x % 10) ∷ [])))
    go (yes l) ih =
        let t : below x 10 ≡ false = not_below l in
        rw t (each_snoc (λ c. (48 ≤ c) × (c ≤ 57)) (digits k (x / 10)) (48 + x % 10) ih (omega arith, omega arith))
    go (no l) ih = let t : below x 10 ≡ true = is_below (omega arith) in rw t (one (omega arith))

pub decimal_are : (x : ℕ) → Decimal (decimal x)
unfolding decimal
decimal_are x = digits_are 10 x

-- the first is not '0', unless the number is 0
abbrev Leads : List ℕ → Type 0
Leads l = (1 ≤ length l) × (49 ≤ item l 0)

digits_lead : (k x : ℕ) → 1 ≤ x → x < 10 ^ k → Leads (digits k x)
unfolding digits
digits_lead zero x h l = absurd (omega (arith, lt-one l))
digits_lead (suc k) x h l = go (dec_le 10 x) (digits_lead k (x / 10))
  where
    go : Dec (10 ≤ x) → (1 ≤ x / 10 → x / 10 < 10 ^ k → Leads (digits k (x / 10)))
        → Leads (pick (below x 10) ((48 + x) ∷ []) (digits k (x / 10) ++ ((48 + x % 10) ∷ [])))
    go (yes m) ih =
        let t : below x 10 ≡ false = not_below m in
        let (a, b) = ih (omega arith) ((div-lt_iff_lt-mul {k = 10} {x = x} {y = 10 ^ k} (omega arith)).1 (omega arith)) in
        rw t (omega (arith, a, length-append (digits k (x / 10)) ((48 + x % 10) ∷ [])), rw (get_or-append (digits k (x / 10)) ((48 + x % 10) ∷ []) 0 0 a) b)
    go (no m) ih = let t : below x 10 ≡ true = is_below (omega arith) in rw t (omega arith, omega arith)

pub decimal_leads : (x : ℕ) → 1 ≤ x → x < 10000000000 → 49 ≤ item (decimal x) 0
unfolding decimal
decimal_leads x h l = (digits_lead 10 x h l).1

pub decimal_zero : decimal 0 ≡ 48 ∷ []
unfolding decimal digits below
decimal_zero = refl

-- ---- what is hashed for a draw

-- "SHA3-224(i in decimal, first Q, "2")", its first 8 bytes
pub list_hash_is : (q : List ℕ) (i : ℕ) → list_hash q i ≡ number (piece (sha3_224 (decimal i ++ (q ++ decimal 2))) 0 8) 0 8
unfolding list_hash draw_hash decimal digits below
list_hash_is q i = sym (number_piece (sha3_224 (decimal i ++ (q ++ decimal 2))) 0 8 0 8 (omega arith))

-- "the lowest bit of the last byte of SHA3-224(j + 1 in decimal, second Q, "1")"
pub drawn_side_is : (q : List ℕ) (j : ℕ)
    → let h : List ℕ = sha3_224 (decimal (j + 1) ++ (q ++ decimal 1)) in drawn_side q j ≡ item h (length h - 1) % 2
unfolding drawn_side draw_hash decimal digits below
drawn_side_is q j =
    let h : List ℕ = sha3_224 (decimal (j + 1) ++ (q ++ decimal 1)) in
    let e : length h - 1 ≡ 27 = omega (arith, sha3_224_length (decimal (j + 1) ++ (q ++ decimal 1))) in
    rw e
