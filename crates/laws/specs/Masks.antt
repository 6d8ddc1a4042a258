-- Masks: bits, ranks, and two masks with as many ones: where they differ, some bit is set in the first alone.
use Rattle.std.specs.Prelude.{◌≡◌, refl, ◌↔◌, ◌≢◌, ℕ, zero, suc, ◌+◌, ◌-◌, ◌*◌, ◌/◌, ◌%◌, ◌^◌, ◌≤◌, ◌<◌}
use Rattle.std.proofs.Common.{sym, ap, ap₂, ◌∙◌, div-one, add-one, one-add, arith, shr-shr, pow_pos}
use Rattle.std.proofs.Math.Nat.{mod-one}
use Rattle.std.proofs.Math.Decide.{ℕ_discrete, dec_le}
use Rattle.std.proofs.Math.Arith.{lt-one}
use Rattle.std.proofs.lemmas.Nat.{mod-pow-add}
use Rattle.std.specs.Int.Count.{ones, ones_step}
use Rattle.laws.specs.Sums.{sum}

-- bit i of a mask
abbrev pub bit : ℕ → ℕ → ℕ
bit mask i = mask / 2 ^ i % 2

-- how many bits below bit l are set
abbrev pub set_before : ℕ → ℕ → ℕ
set_before mask l = sum (bit mask) l

-- how many bits below bit l are clear
abbrev pub clear_before : ℕ → ℕ → ℕ
clear_before mask l = sum (λ i. 1 - bit mask i) l

-- ---- laws

bit_zero : (a : ℕ) → bit a 0 ≡ a % 2
bit_zero a = ap (λ (x : ℕ). x % 2) (div-one a)

-- bit i + 1 of a mask is bit i of its half
bit_suc : (a i : ℕ) → bit a (suc i) ≡ bit (a / 2) i
bit_suc a i = ap (λ (x : ℕ). x % 2) (ap (λ (x : ℕ). a / 2 ^ x) (sym (one-add i)) ∙ sym (shr-shr a 1 i))

-- a bit below k that is set in a and not in b
pub record Only (k a b : ℕ) : Type 0 where
  pub place : ℕ
  pub below : place < k
  pub set : bit a place ≡ 1
  pub clear : bit b place ≡ 0

-- at least as many ones in a, and another number: a bit of a that b lacks
pub only : (k a b : ℕ) → a < 2 ^ k → b < 2 ^ k → ones b ≤ ones a → a ≢ b → Only k a b
only zero a b la lb o ne = absurd (ne (lt-one la ∙ sym (lt-one lb)))
only (suc k) a b la lb o ne =
    go (dec_le (ones (b / 2)) (ones (a / 2))) (ℕ_discrete (a / 2) (b / 2)) (λ le d. only k (a / 2) (b / 2) (omega arith) (omega arith) le d)
  where
    count : b % 2 + ones (b / 2) ≤ a % 2 + ones (a / 2)
    count = omega (arith, ones_step a, ones_step b)

    lowest : b % 2 < a % 2 → Only (suc k) a b
    lowest l = record { place = 0; below = omega arith; set = bit_zero a ∙ omega arith; clear = bit_zero b ∙ omega arith }

    go : Dec (ones (b / 2) ≤ ones (a / 2)) → Dec (a / 2 ≡ b / 2)
        → (ones (b / 2) ≤ ones (a / 2) → a / 2 ≢ b / 2 → Only k (a / 2) (b / 2)) → Only (suc k) a b
    go (no less) d ih = lowest (omega (arith, count))
    go (yes le) (yes e) ih = lowest (omega (arith, count, ap ones e))
    go (yes le) (no d) ih =
        let t : Only k (a / 2) (b / 2) = ih le d in
        record { place = suc t.place; below = omega arith; set = bit_suc a t.place ∙ t.set; clear = bit_suc b t.place ∙ t.clear }

-- ---- the ones of a mask, counted bit by bit

set_half : (mask l : ℕ) → set_before mask (suc l) ≡ mask % 2 + set_before (mask / 2) l
set_half mask zero = omega (arith, bit_zero mask)
set_half mask (suc l) = omega (arith, set_half mask l, bit_suc mask l)

pub set_ones : (k mask : ℕ) → mask < 2 ^ k → set_before mask k ≡ ones mask
unfolding ones
set_ones zero mask h = sym (ap ones (lt-one h))
set_ones (suc k) mask h = set_half mask k ∙ ap (λ (x : ℕ). mask % 2 + x) (set_ones k (mask / 2) (omega arith)) ∙ sym (ones_step mask)

-- a compared list is one of the ones: the compared lists before it are fewer
pub set_lt : (k mask l : ℕ) → l < k → bit mask l ≡ 1 → set_before mask l < set_before mask k
set_lt zero mask l h e = absurd (omega arith)
set_lt (suc k) mask l h e = go (ℕ_discrete l k) (λ m. set_lt k mask l m e)
  where
    go : Dec (l ≡ k) → (l < k → set_before mask l < set_before mask k) → set_before mask l < set_before mask k + bit mask k
    go (yes q) ih = rw (← q) (omega arith)
    go (no q) ih = omega (arith, ih (omega arith))

pub bit_small : (mask i : ℕ) → bit mask i < 2
bit_small mask i = omega arith

pub set_clear : (mask l : ℕ) → set_before mask l + clear_before mask l ≡ l
set_clear mask zero = refl
set_clear mask (suc l) = omega (arith, set_clear mask l, bit_small mask l)

-- the ones below bit l, counted at once
pub low_ones : (l mask : ℕ) → ones (mask % 2 ^ l) ≡ set_before mask l
unfolding ones
low_ones zero mask = ap ones (mod-one mask)
low_ones (suc l) mask =
    let x = mask % 2 ^ suc l in
    let e : x ≡ (mask / 2 % 2 ^ l) * 2 + mask % 2 = ap (λ (k : ℕ). mask % 2 ^ k) (sym (add-one l)) ∙ mod-pow-add mask l 1 in
    let low : x % 2 ≡ mask % 2 = omega (arith, e) in
    let high : x / 2 ≡ mask / 2 % 2 ^ l = omega (arith, e) in
    ones_step x ∙ ap₂ (λ (a b : ℕ). a + b) low (ap ones high ∙ low_ones l (mask / 2)) ∙ sym (set_half mask l)

-- a bit is one of two
pub bit_set : (mask l : ℕ) → bit mask l ≢ 0 → bit mask l ≡ 1
bit_set mask l h = omega (arith, bit_small mask l)

pub bit_clear : (mask l : ℕ) → bit mask l ≢ 1 → bit mask l ≡ 0
bit_clear mask l h = omega (arith, bit_small mask l)

-- no bit at k or above is set
pub bits_below : (k mask : ℕ) → mask < 2 ^ k → (i : ℕ) → k ≤ i → bit mask i ≡ 0
bits_below zero mask h i l = rw (lt-one h) (zero_bits i)
  where
    zero_bits : (i : ℕ) → bit 0 i ≡ 0
    zero_bits zero = refl
    zero_bits (suc i) = bit_suc 0 i ∙ zero_bits i
bits_below (suc k) mask h zero l = absurd (omega arith)
bits_below (suc k) mask h (suc i) l = bit_suc mask i ∙ bits_below k (mask / 2) (omega arith) i (omega arith)

-- a mask none of whose bits at k or above is set is below 2 ^ k; w bounds the mask
pub below_bits : (w k mask : ℕ) → mask < 2 ^ w → ((i : ℕ) → k ≤ i → bit mask i ≡ 0) → mask < 2 ^ k
below_bits zero k mask h clear = omega (arith, lt-one h, pow_pos k)
below_bits (suc w) zero mask h clear =
    omega (arith, below_bits w zero (mask / 2) (omega arith) (λ i l. sym (bit_suc mask i) ∙ clear (suc i) (omega arith)), bit_zero mask, clear 0 (omega arith))
below_bits (suc w) (suc k) mask h clear =
    omega (arith, below_bits w k (mask / 2) (omega arith) (λ i l. sym (bit_suc mask i) ∙ clear (suc i) (omega arith)))

-- ---- of 2m lists m are compared, the set bits, and m are opened: each has fewer than m of its kind before it

pub clear_lt : (k mask l : ℕ) → l < k → bit mask l ≡ 0 → clear_before mask l < clear_before mask k
clear_lt zero mask l h e = absurd (omega arith)
clear_lt (suc k) mask l h e = go (ℕ_discrete l k) (λ m. clear_lt k mask l m e)
  where
    go : Dec (l ≡ k) → (l < k → clear_before mask l < clear_before mask k) → clear_before mask l < clear_before mask k + (1 - bit mask k)
    go (yes q) ih = rw (← q) (omega arith)
    go (no q) ih = omega (arith, ih (omega arith))

pub set_rank : (m mask l : ℕ) → ones mask ≡ m → mask < 2 ^ (2 * m) → l < 2 * m → bit mask l ≡ 1 → set_before mask l < m
set_rank m mask l o h ll b = omega (arith, set_lt (2 * m) mask l ll b, set_ones (2 * m) mask h)

pub clear_rank : (m mask l : ℕ) → ones mask ≡ m → mask < 2 ^ (2 * m) → l < 2 * m → bit mask l ≡ 0 → clear_before mask l < m
clear_rank m mask l o h ll b = omega (arith, clear_lt (2 * m) mask l ll b, set_clear mask (2 * m), set_ones (2 * m) mask h)

-- every mask is below some power of two, itself the exponent
pub below_power : (mask : ℕ) → mask < 2 ^ mask
below_power zero = omega arith
below_power (suc mask) = omega (arith, below_power mask)

-- a mask is below 2 ^ k exactly if no bit at k or above is set
pub bits_iff : (k mask : ℕ) → (mask < 2 ^ k) ↔ ((i : ℕ) → k ≤ i → bit mask i ≡ 0)
bits_iff k mask = (bits_below k mask, below_bits mask k mask (below_power mask))

-- ---- a power of two added to a smaller number: bit n is set, and those below are as they were

pub bit_under : (n j x : ℕ) → j < n → bit (2 ^ n + x) j ≡ bit x j
bit_under zero j x l = absurd (omega arith)
bit_under (suc n) zero x l = bit_zero (2 ^ suc n + x) ∙ omega arith ∙ sym (bit_zero x)
bit_under (suc n) (suc j) x l =
    let h : (2 ^ suc n + x) / 2 ≡ 2 ^ n + x / 2 = omega arith in
    bit_suc (2 ^ suc n + x) j ∙ ap (λ (y : ℕ). bit y j) h ∙ bit_under n j (x / 2) (omega arith) ∙ sym (bit_suc x j)

pub bit_top : (n x : ℕ) → x < 2 ^ n → bit (2 ^ n + x) n ≡ 1
bit_top zero x l = bit_zero (2 ^ 0 + x) ∙ omega arith
bit_top (suc n) x l =
    let h : (2 ^ suc n + x) / 2 ≡ 2 ^ n + x / 2 = omega arith in
    bit_suc (2 ^ suc n + x) n ∙ ap (λ (y : ℕ). bit y n) h ∙ bit_top n (x / 2) (omega arith)
