-- A list whose places are stored to one after the other, from the front: what stands there after i stores.
use mathlib.Core.Path.{◌≡◌, refl, sym, ap, ◌∙◌}
use mathlib.Core.List.{List, ◌++◌}
use Prim.Native.Nat.{ℕ, zero, suc, ◌+◌, ◌≤◌}
use native.Mathlib.Numerals.{add-one}
use native.Mathlib.Omega.{arith}
use lib.ListN.{length, take, drop, get_or, set, length-set}
use lib.Seq.{length-take-le, take-suc, drop-cons, append_snoc, set_at}

pub filled : {X : Type 0} → X → List X → List X → ℕ → List X
filled d xs ys zero = ys
filled d xs ys (suc i) = set (filled d xs ys i) i (get_or xs i d)

module _ {X : Type 0} (d : X) (xs ys : List X) where
  pub filled_none : filled d xs ys 0 ≡ ys
  unfolding filled
  filled_none = refl

  pub filled_more : (i : ℕ) → set (filled d xs ys i) i (get_or xs i d) ≡ filled d xs ys (i + 1)
  unfolding filled
  filled_more i = ap (filled d xs ys) (sym (add-one i))

  pub filled_long : (i : ℕ) → length (filled d xs ys i) ≡ length ys
  unfolding filled
  filled_long zero = refl
  filled_long (suc i) = length-set (filled d xs ys i) i (get_or xs i d) ∙ filled_long i

  -- those stored, and behind them what stood there
  pub filled_all : (k : ℕ) → k ≤ length ys → k ≤ length xs → filled d xs ys k ≡ take k xs ++ drop k ys
  unfolding filled
  filled_all zero h g = refl
  filled_all (suc i) h g =
      let v : X = get_or xs i d in
      ap (λ (l : List X). set l i v) (filled_all i (omega arith) (omega arith))
      ∙ ap (λ (l : List X). set (take i xs ++ l) i v) (drop-cons ys i d h)
      ∙ set_at (take i xs) (get_or ys i d) (drop (suc i) ys) v i (length-take-le i xs (omega arith))
      ∙ sym (append_snoc (take i xs) v (drop (suc i) ys))
      ∙ ap (λ (l : List X). l ++ drop (suc i) ys) (sym (take-suc xs i d g))
