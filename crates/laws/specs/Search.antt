-- A search below n, and results that hold unless an exception E is found.
use Rattle.std.proofs.Common.{sym, subst, inl, inr, not-suc-le-zero, le_refl, eq-or-lt_of_le, le_of_suc-le-suc, arith}
use Rattle.std.specs.Prelude.{◌⊎◌, ℕ, zero, suc, ◌<◌}

-- what holds of each place below n, and of n, holds of each below n + 1
pub last_or : {P : ℕ → Type 0} (n : ℕ) → ((j : ℕ) → j < n → P j) → P n → (j : ℕ) → j < suc n → P j
last_or {P} n below at j l = elim (eq-or-lt_of_le (le_of_suc-le-suc l)) [ inl e ↦ subst P (sym e) at | inr k ↦ below j k ]

-- each place below n has P, or one of them has Q
pub find : {P Q : ℕ → Type 0} (n : ℕ) → ((j : ℕ) → j < n → P j ⊎ Q j) → ((j : ℕ) → j < n → P j) ⊎ ((j : ℕ) × (j < n) × Q j)
find zero h = inl (λ j l. absurd (not-suc-le-zero l))
find {P} {Q} (suc n) h = go (find n (λ j l. h j (omega arith))) (h n (le_refl (suc n)))
  where
    go : ((j : ℕ) → j < n → P j) ⊎ ((j : ℕ) × (j < n) × Q j) → P n ⊎ Q n → ((j : ℕ) → j < suc n → P j) ⊎ ((j : ℕ) × (j < suc n) × Q j)
    go (inl below) (inl at) = inl (last_or n below at)
    go (inl below) (inr q) = inr (n, le_refl (suc n), q)
    go (inr (j, l, q)) at = inr (j, omega arith, q)

-- what holds at each place unless an E is found holds at all of them unless an E is found
pub all_or : {P : ℕ → Type 0} {E : Type 0} (n : ℕ) → ((j : ℕ) → j < n → P j ⊎ E) → ((j : ℕ) → j < n → P j) ⊎ E
all_or {P} {E} n h = elim (find {P = P} {Q = λ j. E} n h) [ inl p ↦ inl p | inr q ↦ inr q.2 ]

infixl 10 ◌>>=◌
pub ◌>>=◌ : {P Q E : Type 0} → P ⊎ E → (P → Q ⊎ E) → Q ⊎ E
◌>>=◌ (inl p) f = f p
◌>>=◌ (inr e) f = inr e
