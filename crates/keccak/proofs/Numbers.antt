-- The numbers below 2^64 are words with the five laws, and the rounds of the code are the rounds of the standard.
--
use mathlib.Core.Bool.{Bool, true, ◌&&◌}
use store.Enc.{and_l, and_r}
use mathlib.Core.Path.{◌≡◌, refl, sym, ap, ap₂, ◌∙◌, subst}
use mathlib.Core.List.{List, [], ◌∷◌, map}
use Prim.Native.Nat.{ℕ, zero, suc, ◌+◌, ◌-◌, ◌*◌, ◌/◌, ◌%◌, ◌^◌, ◌≤◌, ◌<◌}
use native.Mathlib.Nat.{mod-lt, add-zero, add_comm, mod-eq_of_lt, mul-mod_left, lt_of_le_of_lt, mul-one, div-one}
use Prim.Native.Nat.{Fin}
use native.Mathlib.Omega.{arith}
use lib.Arith.{digits_lt, sub-sub_self}
use lib.Dec.{T, ltb, lit<, ltb→lt}
use lib.Pow.{pow_pos, shl-shr, shr_lt, shr_le, mod-pow-add, high, low, ones_split, ones_lt, ones_sub-lt, le_ones, pow-add}
use lib.Bits.{bit_and, bit_or, bit_xor, and_comm, and_mask, and_lt, or_lt, xor_lt, xor_comm, or_add_and, xor_add_and, xor_mod, xor_shr, xor_block, or_shifted, or_self}
use Rattle.keccak.specs.Keccak.{at, rotl, not64, lanes, theta, rho, pi, chi, iota, round, rounds, column, rotation_offsets, round_constants, keccak_f}
use Rattle.keccak.specs.Rows.{Words, numbers, column_of, side_of, turned_of, gather_of, chi0_of, chi1_of, chi2_of, chi3_of, chi4_of, round_of, flip_of, standard, row_at, flat, sides, summed, gathered, code_round, flipped}
use Rattle.keccak.proofs.Complement.{Laws, complement, twice}
use Rattle.keccak.proofs.Xor.{xor_assoc}

-- ---- the complement of a number of k digits

less : (n x a y : ℕ) → a ≡ x → y + a * 2 ≡ n + x → n - x ≡ y
less n x a y p q = omega arith

less2 : (n x y o a b s t : ℕ) → x ≤ n → y ≤ n → t ≡ s → t + b * 2 ≡ (n - x) + (n - y) → s + a * 2 ≡ x + y → o + a ≡ x + y → o ≡ n - b
less2 n x y o a b s t hx hy p q r u = omega arith

module _ (k : ℕ) where
  abbrev no : ℕ → ℕ
  no x = 2 ^ k - 1 - x

  -- it is a sum with ones
  not_is : (x : ℕ) → x < 2 ^ k → no x ≡ bit_xor (2 ^ k - 1) x
  not_is x h = less (2 ^ k - 1) x (bit_and (2 ^ k - 1) x) (bit_xor (2 ^ k - 1) x) (and_comm (2 ^ k - 1) x ∙ and_mask x k ∙ mod-eq_of_lt h) (xor_add_and (2 ^ k - 1) x)

  not_xor : (x y : ℕ) → x < 2 ^ k → y < 2 ^ k → bit_xor (no x) y ≡ no (bit_xor x y)
  not_xor x y hx hy =
      ap (λ (n : ℕ). bit_xor n y) (not_is x hx) ∙ xor_assoc (2 ^ k - 1) x y ∙ sym (not_is (bit_xor x y) (xor_lt k x y hx hy))

  xor_not : (x y : ℕ) → x < 2 ^ k → y < 2 ^ k → bit_xor x (no y) ≡ no (bit_xor x y)
  xor_not x y hx hy = xor_comm x (no y) ∙ not_xor y x hy hx ∙ ap no (xor_comm y x)

  not_not : (x : ℕ) → x < 2 ^ k → no (no x) ≡ x
  not_not x h = sub-sub_self (le_ones k h)

  or_is : (x y : ℕ) → x < 2 ^ k → y < 2 ^ k → bit_or x y ≡ no (bit_and (no x) (no y))
  or_is x y hx hy =
      less2 (2 ^ k - 1) x y (bit_or x y) (bit_and x y) (bit_and (no x) (no y)) (bit_xor x y) (bit_xor (no x) (no y)) (le_ones k hx) (le_ones k hy)
      (not_xor x (no y) hx (ones_sub-lt k y) ∙ ap no (xor_not x y hx hy) ∙ not_not (bit_xor x y) (xor_lt k x y hx hy))
      (xor_add_and (no x) (no y)) (xor_add_and x y) (or_add_and x y)

-- ---- turning

-- the m low digits go up by k places, and the others come down
turned : ℕ → ℕ → ℕ → ℕ
turned m k x = x % 2 ^ m * 2 ^ k + x / 2 ^ m

turned_xor : (m k a b : ℕ) → a < 2 ^ (k + m) → b < 2 ^ (k + m) → turned m k (bit_xor a b) ≡ bit_xor (turned m k a) (turned m k b)
unfolding turned
turned_xor m k a b ha hb =
    ap₂ (λ (x y : ℕ). x * 2 ^ k + y) (xor_mod a b m) (xor_shr a b m)
    ∙ sym (xor_block k (a % 2 ^ m) (b % 2 ^ m) (a / 2 ^ m) (b / 2 ^ m) (shr_lt k m ha) (shr_lt k m hb))

turned_lt : (m k x : ℕ) → x < 2 ^ (k + m) → turned m k x < 2 ^ (k + m)
unfolding turned
turned_lt m k x h = subst (λ (n : ℕ). x % 2 ^ m * 2 ^ k + x / 2 ^ m < n) (sym (pow-add 2 m k) ∙ ap (λ (n : ℕ). 2 ^ n) (add_comm m k)) (digits_lt (mod-lt x (pow_pos m)) (shr_lt k m h))

turned_ones : (m k : ℕ) → turned m k (2 ^ (k + m) - 1) ≡ 2 ^ (k + m) - 1
unfolding turned
turned_ones m k =
    ap (λ (n : ℕ). n % 2 ^ m * 2 ^ k + n / 2 ^ m) (ones_split k m)
    ∙ ap₂ (λ (x y : ℕ). x * 2 ^ k + y) (low (2 ^ k - 1) m (ones_lt m)) (high (2 ^ k - 1) m (ones_lt m))
    ∙ sym (ones_split m k)
    ∙ ap (λ (n : ℕ). 2 ^ n - 1) (add_comm m k)

rotl_is : (x n : ℕ) → x < 2 ^ 64 → suc n < 64 → rotl x (suc n) ≡ turned (64 - suc n) (suc n) x
unfolding rotl turned
rotl_is x n hx hn =
    let k = suc n in
    let m = 64 - suc n in
    let up : 64 ≡ m + k = omega arith in
    let hx' : x < 2 ^ (k + m) = subst (λ (e : ℕ). x < 2 ^ e) (up ∙ add_comm m k) hx in
    let e : x * 2 ^ k % 2 ^ 64 ≡ x % 2 ^ m * 2 ^ k =
    ap (λ (e : ℕ). x * 2 ^ k % 2 ^ e) up
    ∙ mod-pow-add (x * 2 ^ k) m k
    ∙ ap₂ (λ (y z : ℕ). y % 2 ^ m * 2 ^ k + z) (shl-shr x k) (mul-mod_left x (2 ^ k))
    ∙ add-zero _ in
    ap (λ (y : ℕ). bit_or y (x / 2 ^ m)) e ∙ or_shifted (x % 2 ^ m) k (x / 2 ^ m) (shr_lt k m hx')

pub rotl_lt : (x k : ℕ) → x < 2 ^ 64 → rotl x k < 2 ^ 64
unfolding rotl
rotl_lt x zero h = h
rotl_lt x (suc n) h = or_lt 64 (x * 2 ^ suc n % 2 ^ 64) (x / 2 ^ (64 - suc n)) (mod-lt (x * 2 ^ suc n) (pow_pos 64)) (lt_of_le_of_lt (shr_le x (64 - suc n)) h)

turned_not : (m k x : ℕ) → x < 2 ^ (k + m) → turned m k (2 ^ (k + m) - 1 - x) ≡ 2 ^ (k + m) - 1 - turned m k x
turned_not m k x h =
    ap (turned m k) (not_is (k + m) x h)
    ∙ turned_xor m k (2 ^ (k + m) - 1) x (ones_lt (k + m)) h
    ∙ ap (λ (n : ℕ). bit_xor n (turned m k x)) (turned_ones m k)
    ∙ sym (not_is (k + m) (turned m k x) (turned_lt m k x h))

rotl_not : (x k : ℕ) → x < 2 ^ 64 → k < 64 → rotl (not64 x) k ≡ not64 (rotl x k)
unfolding rotl
rotl_not x zero h l = refl
rotl_not x (suc n) h l =
    let k = suc n in
    let m = 64 - suc n in
    let up : k + m ≡ 64 = omega arith in
    rotl_is (not64 x) n (ones_sub-lt 64 x) l
    ∙ subst (λ (e : ℕ). x < 2 ^ e → turned m k (2 ^ e - 1 - x) ≡ 2 ^ e - 1 - turned m k x) up (turned_not m k x) h
    ∙ ap (λ (y : ℕ). not64 y) (sym (rotl_is x n h l))

-- the code's way to turn
pub turn_is : (x k : ℕ) → x < 2 ^ 64 → k < 64 → bit_or (x * 2 ^ k % 2 ^ 64) (x / 2 ^ ((64 - k) % 64)) ≡ rotl x k
unfolding rotl
turn_is x zero h l = ap₂ bit_or (ap (λ (y : ℕ). y % 2 ^ 64) (mul-one x) ∙ mod-eq_of_lt h) (div-one x) ∙ or_self x
turn_is x (suc n) h l = ap (λ (m : ℕ). bit_or (x * 2 ^ suc n % 2 ^ 64) (x / 2 ^ m)) (mod-eq_of_lt (omega arith))

-- ---- the words

abbrev pub Word : Type 0
Word = Fin (2 ^ 64)

abbrev pub words : Words Word
words = record {
  xor = λ x y. (bit_xor x.0 y.0, xor_lt 64 x.0 y.0 x.1 y.1);
  and = λ x y. (bit_and x.0 y.0, and_lt 64 x.0 y.0 x.1 y.1);
  or = λ x y. (bit_or x.0 y.0, or_lt 64 x.0 y.0 x.1 y.1);
  no = λ x. (not64 x.0, ones_sub-lt 64 x.0);
  turn = λ x k. (rotl x.0 (k % 64), rotl_lt x.0 (k % 64) x.1);
}

laws : Laws words
laws = record {
  xor_left = λ x y. native.Mathlib.Fin.val_path (not_xor 64 x.0 y.0 x.1 y.1);
  xor_right = λ x y. native.Mathlib.Fin.val_path (xor_not 64 x.0 y.0 x.1 y.1);
  no_no = λ x. native.Mathlib.Fin.val_path (not_not 64 x.0 x.1);
  turn_no = λ x k. native.Mathlib.Fin.val_path (rotl_not x.0 (k % 64) x.1 (mod-lt k (lit< tt)));
  or_is = λ x y. native.Mathlib.Fin.val_path (or_is 64 x.0 y.0 x.1 y.1);
}

-- the state of 25 words
unfoldable pub vals : (ℕ → Word) → List ℕ
vals f = lanes (λ i. (f i).0)

unfoldable pub words_of : (a : List ℕ) → ((i : ℕ) → at a i < 2 ^ 64) → ℕ → Word
words_of a g i = (at a i, g i)

-- a round of the standard
standard_is : (c : Word) (f : ℕ → Word) → round c.0 (vals f) ≡ vals (standard words c f)
unfolding round iota chi pi rho theta column lanes rotation_offsets standard side_of column_of vals
standard_is c f = refl

-- a round of the code
code_is : (c : Word) (f : ℕ → Word) → code_round c.0 (vals f) ≡ map (λ (x : Word). x.0) (round_of words c f)
unfolding code_round round_of gather_of turned_of chi0_of chi1_of chi2_of chi3_of chi4_of side_of column_of vals lanes rotation_offsets
code_is c f = refl

pub step : (c : Word) (f : ℕ → Word) → code_round c.0 (vals (flip_of words f)) ≡ vals (flip_of words (standard words c f))
unfolding vals lanes
step c f = code_is c (flip_of words f) ∙ ap (map (λ (x : Word). x.0)) (complement words laws f c)

-- ---- all the rounds

-- the entries of a list that is tested are below m
abbrev small : ℕ → List ℕ → Bool
small m [] = true
small m (x ∷ l) = ltb x m && small m l

below : (m : ℕ) → 0 < m → (l : List ℕ) → T (small m l) → (n : ℕ) → at l n < m
below m h [] t n = h
below m h (x ∷ l) t zero = ltb→lt x m (and_l (ltb x m) (small m l) t)
below m h (x ∷ l) t (suc n) = below m h l (and_r (ltb x m) (small m l) t) n

pub constants_fit : (n : ℕ) → at round_constants n < 2 ^ 64
unfolding round_constants
constants_fit n = below (2 ^ 64) (pow_pos 64) round_constants tt n

pub offsets_fit : (n : ℕ) → at rotation_offsets n < 64
unfolding rotation_offsets
offsets_fit n = below 64 (lit< tt) rotation_offsets tt n

unfoldable pub constant : ℕ → Word
constant n = (at round_constants n, constants_fit n)

unfoldable pub rounds_of : ℕ → (ℕ → Word) → ℕ → Word
rounds_of zero f = f
rounds_of (suc n) f = standard words (constant n) (rounds_of n f)

module _ (a : List ℕ) (g : (i : ℕ) → at a i < 2 ^ 64) where
  first_round : round (at round_constants 0) a ≡ vals (standard words (constant 0) (words_of a g))
  unfolding round iota chi pi rho theta column lanes rotation_offsets standard side_of column_of vals words_of constant
  first_round = refl

  rounds_are : (n : ℕ) → rounds (suc n) a ≡ vals (rounds_of (suc n) (words_of a g))
  unfolding rounds rounds_of constant
  rounds_are zero = first_round
  rounds_are (suc n) = ap (round (at round_constants (suc n))) (rounds_are n) ∙ standard_is (constant (suc n)) (rounds_of (suc n) (words_of a g))

  pub start_is : flipped a ≡ vals (flip_of words (words_of a g))
  unfolding flipped flip_of vals words_of lanes
  start_is = refl

  pub end_is : flipped (vals (flip_of words (rounds_of 24 (words_of a g)))) ≡ keccak_f a
  unfolding flipped flip_of vals lanes keccak_f
  end_is = ap (map (λ (x : Word). x.0)) (twice words laws (rounds_of 24 (words_of a g))) ∙ sym (rounds_are 23)

-- row 0 of a state, with its two lanes that are kept complemented complemented again
pub first_flipped : (a : List ℕ) {e : List ℕ} → e ≡ row_at a 0 → (at e 0 ∷ not64 (at e 1) ∷ not64 (at e 2) ∷ at e 3 ∷ at e 4 ∷ []) ≡ row_at (flipped a) 0
unfolding row_at flipped flip_of lanes
first_flipped a h = rw h

pub one : (f : ℕ → Word) (n m : ℕ) → m ≡ suc n → code_round (at round_constants n) (vals (flip_of words (rounds_of n f))) ≡ vals (flip_of words (rounds_of m f))
unfolding rounds_of constant
one f n m e = step (constant n) (rounds_of n f) ∙ ap (λ (k : ℕ). vals (flip_of words (rounds_of k f))) (sym e)

-- three and four rounds of the code, from the state of any number of rounds
pub three : (f : ℕ → Word) (n k l m : ℕ) → k ≡ suc n → l ≡ suc k → m ≡ suc l →
    code_round (at round_constants l) (code_round (at round_constants k) (code_round (at round_constants n) (vals (flip_of words (rounds_of n f))))) ≡ vals (flip_of words (rounds_of m f))
three f n k l m e e' e'' =
    let c : ℕ → List ℕ → List ℕ = λ j a. code_round (at round_constants j) a in
    ap (λ (a : List ℕ). c l (c k a)) (one f n k e) ∙ ap (λ (a : List ℕ). c l a) (one f k l e') ∙ one f l m e''

pub four : (f : ℕ → Word) (n k l j m : ℕ) → k ≡ suc n → l ≡ suc k → j ≡ suc l → m ≡ suc j →
    code_round (at round_constants j) (code_round (at round_constants l) (code_round (at round_constants k) (code_round (at round_constants n) (vals (flip_of words (rounds_of n f))))))
    ≡ vals (flip_of words (rounds_of m f))
four f n k l j m e e' e'' e''' = ap (λ (a : List ℕ). code_round (at round_constants j) a) (three f n k l j e e' e'') ∙ one f j m e'''

-- ---- a round, row by row

-- a row, from its lanes as they are gathered and as they are turned
pub row_is : (p q r s t d : List ℕ) (j : ℕ) (f : ℕ → ℕ → ℕ → ℕ → ℕ → List ℕ) {g : List ℕ} {b0 b1 b2 b3 b4 : ℕ} → g ≡ summed p q r s t d j →
    b0 ≡ rotl (at g 0) (at rotation_offsets (5 * 0 + j % 5)) →
    b1 ≡ rotl (at g 1) (at rotation_offsets (5 * 1 + (j + 1) % 5)) →
    b2 ≡ rotl (at g 2) (at rotation_offsets (5 * 2 + (j + 2) % 5)) →
    b3 ≡ rotl (at g 3) (at rotation_offsets (5 * 3 + (j + 3) % 5)) →
    b4 ≡ rotl (at g 4) (at rotation_offsets (5 * 4 + (j + 4) % 5)) →
    f b0 b1 b2 b3 b4 ≡ gathered p q r s t d j f
unfolding summed gathered gather_of turned_of
row_is p q r s t d j f e e0 e1 e2 e3 e4 = rw (e0, e1, e2, e3, e4, e)

-- the rows before a round and those behind it
pub record Step (c : ℕ) (p q r s t p' q' r' s' t' : List ℕ) : Type 0 where
  pub is : flat p' q' r' s' t' ≡ code_round c (flat p q r s t)

pub by_rows : (c : ℕ) {p q r s t d p' q' r' s' t' : List ℕ} → d ≡ sides p q r s t →
    p' ≡ gathered p q r s t d 0 (chi0_of numbers c) →
    q' ≡ gathered p q r s t d 3 (chi1_of numbers) →
    r' ≡ gathered p q r s t d 1 (chi2_of numbers) →
    s' ≡ gathered p q r s t d 4 (chi3_of numbers) →
    t' ≡ gathered p q r s t d 2 (chi4_of numbers) →
    Step c p q r s t p' q' r' s' t'
unfolding flat sides gathered code_round round_of gather_of turned_of chi0_of chi1_of chi2_of chi3_of chi4_of rotation_offsets
by_rows c e0 e1 e2 e3 e4 e5 = record { is = rw (e1, e2, e3, e4, e5, e0) }

-- of a round, row 0 alone
pub first_of_rows : (c : ℕ) (p q r s t : List ℕ) {d p' : List ℕ} → d ≡ sides p q r s t → p' ≡ gathered p q r s t d 0 (chi0_of numbers c) → p' ≡ row_at (code_round c (flat p q r s t)) 0
unfolding flat sides gathered row_at code_round round_of gather_of turned_of chi0_of chi1_of chi2_of chi3_of chi4_of rotation_offsets
first_of_rows c p q r s t e0 e1 = rw (e1, e0)

-- a state is its rows
own_rows : (c : ℕ) (a : List ℕ) → code_round c (flat (row_at a 0) (row_at a 5) (row_at a 10) (row_at a 15) (row_at a 20)) ≡ code_round c a
unfolding flat row_at code_round round_of gather_of turned_of chi0_of chi1_of chi2_of chi3_of chi4_of side_of column_of
own_rows c a = refl

pub as_rows : (c : ℕ) (a : List ℕ) {p q r s t : List ℕ} → p ≡ row_at a 0 → q ≡ row_at a 5 → r ≡ row_at a 10 → s ≡ row_at a 15 → t ≡ row_at a 20 →
    code_round c (flat p q r s t) ≡ code_round c a
as_rows c a e0 e1 e2 e3 e4 = rw (e0, e1, e2, e3, e4) (own_rows c a)

-- the rows of a state
pub record Made (a p q r s t : List ℕ) : Type 0 where
  pub is : flat p q r s t ≡ a

-- the first round, on the rows that are cut from a state, and one round more
pub begun : {c : ℕ} (a : List ℕ) {p q r s t p' q' r' s' t' : List ℕ} → p ≡ row_at a 0 → q ≡ row_at a 5 → r ≡ row_at a 10 → s ≡ row_at a 15 → t ≡ row_at a 20 →
    Step c p q r s t p' q' r' s' t' → Made (code_round c a) p' q' r' s' t'
begun {c} a e0 e1 e2 e3 e4 h = record { is = h.is ∙ as_rows c a e0 e1 e2 e3 e4 }

pub more : {c : ℕ} {a p q r s t p' q' r' s' t' : List ℕ} → Made a p q r s t → Step c p q r s t p' q' r' s' t' → Made (code_round c a) p' q' r' s' t'
more {c} e h = record { is = h.is ∙ ap (code_round c) e.is }
