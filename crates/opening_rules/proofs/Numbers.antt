-- The numbers of openings that stand one behind the other.
use mathlib.Core.Path.{◌≡◌, ap, ap₂, ◌∙◌}
use mathlib.Core.Bool.{true}
use mathlib.Core.List.{List}
use Prim.Native.Nat.{ℕ, ◌+◌, ◌%◌, ◌≤◌, ◌<◌}
use Rattle.std.proofs.Common.{add-one, mod-eq_of_lt}
use native.Mathlib.Nat.{zero-add}
use native.Mathlib.Omega.{arith}
use Rattle.laws.specs.Tests.{below_iff, every_iff}
use Rattle.laws.specs.Modular.{plus}
use Rattle.protocol.specs.Terms.{opened, sum_of_three, sum_of_six}
use Rattle.protocol.specs.Rules.{numbers_below}
use Rattle.opening_rules.specs.Opened.{sum_of}

pub opened_below : (M : ℕ) (o : ℕ → List ℕ) (k : ℕ) → numbers_below M o k ≡ true → (i : ℕ) → i < k → opened (o i) < M
unfolding numbers_below
opened_below M o k e i l = (below_iff (opened (o i)) M).0 ((every_iff _ k).0 e i l)

-- the first of them too
pub fewer_below : (M : ℕ) (o : ℕ → List ℕ) (k v : ℕ) → v ≤ k → numbers_below M o k ≡ true → numbers_below M o v ≡ true
unfolding numbers_below
fewer_below M o k v h e = (every_iff _ v).1 (λ i l. (every_iff _ k).0 e i (omega arith))

-- ---- sums

none_before : (M x : ℕ) → x < M → plus M 0 x ≡ x
unfolding plus
none_before M x h = ap (λ (a : ℕ). a % M) (zero-add x) ∙ mod-eq_of_lt h

-- one more summand
pub one_more : (M : ℕ) (o : ℕ → List ℕ) (i : ℕ) {s a x : ℕ} → s ≡ plus M a x → a ≡ sum_of M o i → x ≡ opened (o i) → s ≡ sum_of M o (i + 1)
unfolding sum_of
one_more M o i e f g = rw add-one (e ∙ ap₂ (plus M) f g)

module _ (M : ℕ) (o : ℕ → List ℕ) where
  pub three_summed : numbers_below M o 3 ≡ true → sum_of M o 3 ≡ sum_of_three M o
  unfolding sum_of sum_of_three
  three_summed h = ap (λ (x : ℕ). plus M (plus M x (opened (o 1))) (opened (o 2))) (none_before M (opened (o 0)) (opened_below M o 3 h 0 (omega arith)))

  pub six_summed : numbers_below M o 6 ≡ true → sum_of M o 6 ≡ sum_of_six M o
  unfolding sum_of sum_of_six
  six_summed h =
      ap (λ (x : ℕ). plus M (plus M (plus M x (opened (o 3))) (opened (o 4))) (opened (o 5))) (three_summed (fewer_below M o 6 3 (omega arith) h))
