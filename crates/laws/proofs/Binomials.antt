-- How many numbers a set has all of which agree in some bits.
use Rattle.std.specs.Prelude.{◌≡◌, Bool, ℕ, ◌+◌, ◌-◌, ◌*◌, ◌^◌, ◌≤◌, ◌<◌}
use Rattle.std.proofs.Math.Path.{refl}
use Rattle.std.proofs.Common.{ap, ◌∙◌, le_trans, le_of_eq, mul-le-mul_left, le_of_mul-le-mul_right, arith, pow-add, pow_mono, pow_pos}
use Rattle.std.proofs.Math.Bool.{true, false}
use Rattle.std.proofs.Math.Decide.{dec_lt}
use Rattle.laws.specs.Tests.{◌or◌, pick, or_iff}
use Rattle.laws.specs.Masks.{bit}
use Rattle.laws.specs.Subsets.{many_below}
use Rattle.laws.specs.Binomials.{fixed_bits, all_have, constant, have}

module _ (t : ℕ → Bool) (n : ℕ) where
  -- it has at most 2 ^ n / 2 ^ K numbers, K being the number of such bits
  pub constant_few : many_below t (2 ^ n) * 2 ^ many_below (constant t n) n ≤ 2 ^ n
  unfolding constant
  constant_few = fixed_bits n t (constant t n) (λ j. pick (all_have t n j 0) 0 1) (λ x j l e k f. go x j l e (all_have t n j 0) refl f)
    where
      go : (x j : ℕ) → x < 2 ^ n → t x ≡ true → (b : Bool) → all_have t n j 0 ≡ b → (b or all_have t n j 1) ≡ true → bit x j ≡ pick b 0 1
      go x j l e true a f = have t n j 0 x a l e
      go x j l e false a f = have t n j 1 x ((or_iff false (all_have t n j 1)).0 f refl) l e

  -- so where there are more than 2 ^ n / 2 ^ k, fewer than k bits are the same in all
  pub constant_less : (k : ℕ) → k ≤ n → 2 ^ (n - k) < many_below t (2 ^ n) → many_below (constant t n) n < k
  constant_less k l h = go (dec_lt (many_below (constant t n) n) k)
    where
      go : Dec (many_below (constant t n) n < k) → many_below (constant t n) n < k
      go (yes q) = q
      go (no q) =
          let most : many_below t (2 ^ n) * 2 ^ k ≤ 2 ^ n = le_trans (mul-le-mul_left (many_below t (2 ^ n)) (pow_mono {i = k} {j = many_below (constant t n) n} (omega arith))) constant_few in
          let e : n ≡ n - k + k = omega arith in
          let whole : 2 ^ n ≡ 2 ^ (n - k) * 2 ^ k = ap (λ (x : ℕ). 2 ^ x) e ∙ pow-add 2 (n - k) k in
          absurd (omega (arith, le_of_mul-le-mul_right {m = many_below t (2 ^ n)} {n = 2 ^ (n - k)} {k = 2 ^ k} (le_trans most (le_of_eq whole)) (pow_pos k)))
