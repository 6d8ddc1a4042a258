-- Choices of k out of n, and numbers below 2 ^ n some of whose bits are fixed.
use Rattle.std.specs.Prelude.{◌≡◌, ◌≢◌, Bool, ℕ, zero, suc, ◌+◌, ◌*◌, ◌^◌, ◌≤◌, ◌<◌}
use Rattle.std.proofs.Math.Path.{refl}
use Rattle.std.proofs.Common.{sym, ap, ◌∙◌, le_refl, zero-add, add-zero, add-mul, mul_assoc, arith, pow-add}
use Rattle.std.proofs.Math.Bool.{true, false}
use Rattle.std.proofs.Math.Decide.{ℕ_discrete}
use Rattle.std.specs.Int.Count.{ones}
use Rattle.std.proofs.lemmas.Nat.{ones_cat}
use Rattle.laws.specs.Tests.{equal, ◌or◌, ◌implies◌, every, is_equal, not_equal, by_iff, equal_iff, unequal_iff, or_fails, implies_iff, implies_fails, every_iff, every_fails, refuted}
use Rattle.laws.specs.Sums.{one_if, sum_same}
use Rattle.laws.specs.Masks.{bit, bit_set, bits_below, bit_under, bit_top}
use Rattle.laws.specs.Subsets.{many_below, below_none, below_most, below_double}

-- the binomial coefficient, by its recursion: of n + 1 things, a choice of k + 1 takes the last one or does not
unfoldable pub binomial : ℕ → ℕ → ℕ
binomial zero zero = 1
binomial zero (suc k) = 0
binomial (suc n) zero = 1
binomial (suc n) (suc k) = binomial n k + binomial n (suc k)

-- one choice of nothing
of_none : (n : ℕ) → binomial n 0 ≡ 1
unfolding binomial
of_none zero = refl
of_none (suc n) = refl

-- there is a choice of k out of n, and there are two of m out of 2m
some_choice : (n k : ℕ) → k ≤ n → 1 ≤ binomial n k
unfolding binomial
some_choice zero zero l = omega arith
some_choice zero (suc k) l = absurd (omega arith)
some_choice (suc n) zero l = omega arith
some_choice (suc n) (suc k) l = omega (arith, some_choice n k (omega arith))

pub two_choices : (m : ℕ) → 1 ≤ m → 2 ≤ binomial (2 * m) m
unfolding binomial
two_choices zero l = absurd (omega arith)
two_choices (suc m) l =
    let e : 2 * suc m ≡ suc (2 * m + 1) = omega arith in
    rw e (omega (arith, some_choice (2 * m + 1) m (omega arith), some_choice (2 * m + 1) (suc m) (omega arith)))

-- ---- as many numbers below 2 ^ n have k ones

one_more : (n x : ℕ) → x < 2 ^ n → ones (2 ^ n + x) ≡ suc (ones x)
unfolding ones
one_more n x l = let e : 1 * 2 ^ n + x ≡ 2 ^ n + x = omega arith in ap ones (sym e) ∙ ones_cat n 1 x l ∙ omega arith

with_top : (n k : ℕ) → many_below (λ x. equal (ones (2 ^ n + x)) (suc k)) (2 ^ n) ≡ many_below (λ x. equal (ones x) k) (2 ^ n)
with_top n k =
    sum_same (λ x. one_if (equal (ones (2 ^ n + x)) (suc k))) (λ x. one_if (equal (ones x) k)) (2 ^ n) (λ x l. ap one_if (same x l))
  where
    same : (x : ℕ) → x < 2 ^ n → equal (ones (2 ^ n + x)) (suc k) ≡ equal (ones x) k
    same x l =
        by_iff (equal (ones (2 ^ n + x)) (suc k)) (equal (ones x) k)
        (λ e. is_equal (omega (arith, one_more n x l, (equal_iff (ones (2 ^ n + x)) (suc k)).0 e)))
        (λ e. is_equal (omega (arith, one_more n x l, (equal_iff (ones x) k).0 e)))

at_zero : (n : ℕ) → many_below (λ x. equal (ones (2 ^ n + x)) 0) (2 ^ n) ≡ 0
at_zero n = below_none (λ x. equal (ones (2 ^ n + x)) 0) (2 ^ n) (λ x l. not_equal (omega (arith, one_more n x l)))

pub with_ones : (n k : ℕ) → many_below (λ x. equal (ones x) k) (2 ^ n) ≡ binomial n k
unfolding binomial ones equal
with_ones zero zero = refl
with_ones zero (suc k) = omega (arith, ap one_if (not_equal {a = 0} {b = suc k} (omega arith)))
with_ones (suc n) zero = below_double (λ x. equal (ones x) 0) n ∙ omega (arith, with_ones n 0, at_zero n, of_none n)
with_ones (suc n) (suc k) = below_double (λ x. equal (ones x) (suc k)) n ∙ omega (arith, with_ones n (suc k), with_top n k, with_ones n k)

-- ---- fixed bits

one_bit_more : (a K N : ℕ) → a * 2 ^ K ≤ N → a * 2 ^ (K + 1) ≤ 2 * N
one_bit_more a K N h = rw (pow-add 2 K 1, ← mul_assoc a (2 ^ K) (2 ^ 1)) (omega arith)

-- numbers below 2 ^ n whose bits at K places are those of v: at most 2 ^ n / 2 ^ K
pub fixed_bits : (n : ℕ) (t fixed : ℕ → Bool) (v : ℕ → ℕ)
    → ((x j : ℕ) → x < 2 ^ n → t x ≡ true → j < n → fixed j ≡ true → bit x j ≡ v j)
    → many_below t (2 ^ n) * 2 ^ many_below fixed n ≤ 2 ^ n
fixed_bits zero t fixed v h = omega (arith, below_most t (2 ^ 0))
fixed_bits (suc n) t fixed v h =
    go (fixed n) refl (ℕ_discrete (v n) 0) (fixed_bits n t fixed v (λ x j l e k f. h x j (omega arith) e (omega arith) f))
    (fixed_bits n (λ x. t (2 ^ n + x)) fixed v (λ x j l e k f. sym (bit_under n j x k) ∙ h (2 ^ n + x) j (omega arith) e (omega arith) f))
  where
    low : ℕ
    low = many_below t (2 ^ n)

    high : ℕ
    high = many_below (λ x. t (2 ^ n + x)) (2 ^ n)

    K : ℕ
    K = many_below fixed n

    -- bit n fixed to 0, and to 1
    none_high : fixed n ≡ true → v n ≡ 0 → high ≡ 0
    none_high f z = below_none (λ x. t (2 ^ n + x)) (2 ^ n) (λ x l. refuted (t (2 ^ n + x)) (λ e. omega (arith, bit_top n x l, h (2 ^ n + x) n (omega arith) e (le_refl (suc n)) f)))

    none_low : fixed n ≡ true → v n ≢ 0 → low ≡ 0
    none_low f z = below_none t (2 ^ n) (λ x l. refuted (t x) (λ e. z (omega (arith, bits_below n x l n (le_refl n), h x n (omega arith) e (le_refl (suc n)) f))))

    go : (b : Bool) → fixed n ≡ b → Dec (v n ≡ 0) → low * 2 ^ K ≤ 2 ^ n → high * 2 ^ K ≤ 2 ^ n → many_below t (2 ^ suc n) * 2 ^ (K + one_if (fixed n)) ≤ 2 ^ suc n
    go true f (yes z) il ih = rw (f, below_double t n, none_high f z, add-zero low) (omega (arith, one_bit_more low K (2 ^ n) il))
    go true f (no z) il ih = rw (f, below_double t n, none_low f z, zero-add high) (omega (arith, one_bit_more high K (2 ^ n) ih))
    go false f d il ih = rw (f, below_double t n, add-zero K, add-mul low high (2 ^ K)) (omega arith)

-- ---- a set of numbers below 2 ^ n all of which have the same bit j

unfoldable pub all_have : (ℕ → Bool) → ℕ → ℕ → ℕ → Bool
all_have t n j v = every (λ x. t x implies equal (bit x j) v) (2 ^ n)

unfoldable pub constant : (ℕ → Bool) → ℕ → ℕ → Bool
constant t n j = all_have t n j 0 or all_have t n j 1

-- two numbers of the set that differ in bit j
pub record Varied (t : ℕ → Bool) (n j : ℕ) : Type 0 where
  pub one : ℕ
  pub other : ℕ
  pub one_in : t one ≡ true
  pub other_in : t other ≡ true
  pub differ : bit one j ≢ bit other j

module _ (t : ℕ → Bool) (n : ℕ) where
  pub have : (j v x : ℕ) → all_have t n j v ≡ true → x < 2 ^ n → t x ≡ true → bit x j ≡ v
  unfolding all_have
  have j v x a l e = (equal_iff (bit x j) v).0 ((implies_iff (t x) (equal (bit x j) v)).0 ((every_iff (λ y. t y implies equal (bit y j) v) (2 ^ n)).0 a x l) e)

  lacks : (j v : ℕ) → all_have t n j v ≡ false → (x : ℕ) × ((t x ≡ true) × (bit x j ≢ v))
  unfolding all_have
  lacks j v a =
      let (x, l, e) = (every_fails (λ y. t y implies equal (bit y j) v) (2 ^ n)).0 a in
      let (i, f) = (implies_fails (t x) (equal (bit x j) v)).0 e in
      (x, (i, (unequal_iff (bit x j) v).0 f))

  pub varied : (j : ℕ) → constant t n j ≡ false → Varied t n j
  unfolding constant
  varied j c =
      let (a, b) = (or_fails (all_have t n j 0) (all_have t n j 1)).0 c in
      let (x, (i, e)) = lacks j 0 a in
      let (y, (k, f)) = lacks j 1 b in
      record { one = x; other = y; one_in = i; other_in = k; differ = λ q. f (omega (arith, bit_set x j e)) }
