-- A row of marks, which tells the places that are taken: after i turns those of the first i.
use Rattle.std.specs.Prelude.{◌≡◌, refl, Bool, true, false, not, List, ℕ, ◌+◌, ◌≤◌, ◌<◌, length, get_or, set, replicate}
use Rattle.std.proofs.Common.{sym, ap, ◌∙◌, add-one, get_or-set_same, get_or-set_other}
use Rattle.std.proofs.Math.Decide.{ℕ_discrete}
use Rattle.std.proofs.lemmas.List.{get_or-replicate}
use Rattle.laws.specs.Tests.{below, differ, ◌and◌, every, and_iff, and_last, and_last_stop, and_stop, is_below, not_below, is_differ, not_differ}

-- none of the first i places is q
unfoldable pub unused : (ℕ → ℕ) → ℕ → ℕ → Bool
unused perm i q = every (λ j. differ (perm j) q) i

-- the test of place i
unfoldable pub fresh : ℕ → (ℕ → ℕ) → ℕ → Bool
fresh n perm i = below (perm i) n and unused perm i (perm i)

-- place i is too high, is not the first of its number, or is good
pub fresh_high : (n : ℕ) (perm : ℕ → ℕ) (i : ℕ) → n ≤ perm i → fresh n perm i ≡ false
unfolding fresh
fresh_high n perm i h = sym (and_stop _ _ (not_below h))

pub fresh_used : (n : ℕ) (perm : ℕ → ℕ) (i : ℕ) → unused perm i (perm i) ≡ false → fresh n perm i ≡ false
unfolding fresh
fresh_used n perm i h = sym (and_last_stop _ _ h)

pub fresh_holds : (n : ℕ) (perm : ℕ → ℕ) (i : ℕ) → perm i < n → unused perm i (perm i) ≡ true → fresh n perm i ≡ true
unfolding fresh
fresh_holds n perm i h u = (and_iff _ _).1 (is_below h, u)

-- a mark is clear exactly if none of the first i places is its own
pub record Marks (wide : ℕ) (perm : ℕ → ℕ) (i : ℕ) (marks : List Bool) : Type 0 where
  pub clear : (q : ℕ) → q < wide → not (get_or marks q false) ≡ unused perm i q

pub none_marked : (wide : ℕ) (perm : ℕ → ℕ) → Marks wide perm 0 (replicate wide false)
unfolding unused every
none_marked wide perm = record { clear = λ q l. ap not (get_or-replicate wide q false false l) }

pub one_marked : {wide : ℕ} {perm : ℕ → ℕ} {i : ℕ} {marks : List Bool} → Marks wide perm i marks → perm i < length marks → Marks wide perm (i + 1) (set marks (perm i) true)
unfolding unused every
one_marked {wide} {perm} {i} {marks} m h = rw (add-one i) (record { clear = λ q l. go q l (ℕ_discrete q (perm i)) })
  where
    go : (q : ℕ) → q < wide → Dec (q ≡ perm i) → not (get_or (set marks (perm i) true) q false) ≡ (every (λ j. differ (perm j) q) i and differ (perm i) q)
    go q l (yes e) = rw (e, get_or-set_same marks (perm i) true false h) (and_last_stop _ _ (not_differ refl))
    go q l (no ne) = ap not (get_or-set_other marks (perm i) q true false ne) ∙ m.clear q l ∙ and_last _ _ (is_differ (λ e. ne (sym e)))
