-- The numbers in openings summed, and when two halves agree, said by plain sums modulo M.
use mathlib.Core.Path.{◌≡◌, refl, sym, ap, ◌∙◌}
use mathlib.Core.Logic.{◌↔◌}
use mathlib.Core.Bool.{true}
use mathlib.Core.List.{List}
use Prim.Native.Nat.{ℕ, zero, suc, ◌+◌, ◌-◌, ◌%◌, ◌≤◌, ◌<◌}
use native.Mathlib.Nat.{mod-add-mod, mod-mod, le_of_lt}
use native.Mathlib.Omega.{arith}
use Rattle.laws.specs.Tests.{equal_iff}
use Rattle.laws.specs.Modular.{plus, minus, cancel, plus_plus, minus_add}
use Rattle.protocol.specs.Terms.{opened, sum_of_three, sum_of_six}
use Rattle.protocol.specs.Rules.{agrees}

pub sum_of_three_lem : (M : ℕ) (o : ℕ → List ℕ) → sum_of_three M o ≡ (opened (o 0) + opened (o 1) + opened (o 2)) % M
unfolding sum_of_three
sum_of_three_lem M o = plus_plus M (opened (o 0)) (opened (o 1)) (opened (o 2))

pub sum_of_six_lem : (M : ℕ) (o : ℕ → List ℕ)
    → sum_of_six M o ≡ (opened (o 0) + opened (o 1) + opened (o 2) + opened (o 3) + opened (o 4) + opened (o 5)) % M
unfolding sum_of_six plus
sum_of_six_lem M o = rw (sum_of_three_lem M o) (simp mod-add-mod)

minus_mod : (M a b : ℕ) → minus M a b % M ≡ minus M a b
unfolding minus
minus_mod M a b = mod-mod (a + (M - b)) M

pub agrees_iff : (M side b l t : ℕ) → side ≤ 1 → t < M
    → (agrees M side (b % M) (l % M) t ≡ true) ↔ ((side ≡ 0 → b % M ≡ (l + t) % M) × (side ≡ 1 → (b + t) % M ≡ l % M))
unfolding agrees plus
agrees_iff M zero b l t hs ht = (
  λ e. (λ z. (equal_iff (b % M) ((l % M + t) % M)).0 e ∙ mod-add-mod l M t, λ z. absurd (omega arith)),
  λ h. (equal_iff (b % M) ((l % M + t) % M)).1 (h.0 refl ∙ sym (mod-add-mod l M t)),
)
agrees_iff M (suc side) b l t hs ht = (
  λ e. (λ z. absurd (omega arith), λ z. forth ((equal_iff (b % M) (minus M (l % M) t)).0 e)),
  λ h. (equal_iff (b % M) (minus M (l % M) t)).1 (back (h.1 (omega arith))),
)
  where
    same : (minus M (l % M) t + t) % M ≡ l % M
    same = minus_add M (l % M) t (le_of_lt ht) ∙ mod-mod l M

    forth : b % M ≡ minus M (l % M) t → (b + t) % M ≡ l % M
    forth e = sym (mod-add-mod b M t) ∙ ap (λ (x : ℕ). (x + t) % M) e ∙ same

    small : minus M (l % M) t % M ≡ minus M (l % M) t
    small = minus_mod M (l % M) t

    back : (b + t) % M ≡ l % M → b % M ≡ minus M (l % M) t
    back e = cancel M b (minus M (l % M) t) t (e ∙ sym same) ∙ small
