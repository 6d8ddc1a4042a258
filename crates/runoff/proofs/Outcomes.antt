-- A round's outcome step by step: the winner, and who leaves.
use mathlib.Core.Path.{◌≡◌, refl, sym, ap, ap₂, ◌∙◌}
use mathlib.Core.Logic.{◌≢◌}
use mathlib.Core.Bool.{Bool, true, false}
use mathlib.Core.List.{List}
use Prim.Native.Nat.{ℕ, zero, suc, ◌+◌, ◌*◌, ◌/◌, ◌≤◌, ◌<◌}
use native.Mathlib.Decide.{ℕ_discrete}
use native.Mathlib.Numerals.{add-one}
use native.Mathlib.Omega.{arith}
use Rattle.std.specs.Prelude.{Option, Some, is_some, unwrap_or}
use Rattle.std.proofs.lemmas.Option.{none-some}
use Rattle.laws.specs.Tests.{pick, equal, differ, below, at_most, ◌and◌, ◌or◌, is_equal, is_differ, not_differ, is_below, not_below, and_go, and_stop, and_last_stop, or_stop}
use Rattle.runoff.specs.Ranking.{standing}
use Rattle.runoff.specs.Rounds.{candidate, winner_among, fewer, fewest_among}

pub picked : {A : Type 0} {t : Bool} (x y : A) → t ≡ true → pick t x y ≡ x
picked x y e = rw e

pub unpicked : {A : Type 0} {t : Bool} (x y : A) → t ≡ false → pick t x y ≡ y
unpicked x y e = rw e

-- ---- a candidate by number

pub some_is : (k : ℕ) → k ≢ 0 → Some k ≡ candidate k
some_is zero h = absurd (h refl)
some_is (suc k) h = refl

pub number_is : (k : ℕ) → unwrap_or (candidate k) 0 ≡ k
number_is zero = refl
number_is (suc k) = refl

pub named_is : (k : ℕ) → is_some (candidate k) ≡ differ k 0
named_is zero = sym (not_differ {a = 0} {b = 0} refl)
named_is (suc k) = sym (is_differ {a = suc k} {b = 0} (omega arith))

pub some_number : {o : Option ℕ} {k x : ℕ} → o ≡ candidate k → o ≡ Some x → k ≡ x
some_number {o} {k} {x} e h = sym (number_is k) ∙ ap (λ (p : Option ℕ). unwrap_or p 0) (sym e ∙ h)

-- who is named has a number from 1 on
pub some_one : {o : Option ℕ} (k : ℕ) {x : ℕ} → o ≡ candidate k → o ≡ Some x → (1 ≤ x) × (x ≤ k)
some_one zero {x} e h = absurd (none-some x (sym e ∙ h))
some_one (suc k) {x} e h = let i : suc k ≡ x = some_number e h in (omega arith, omega arith)

pub picked_candidate : (t : Bool) (k m : ℕ) → k ≢ 0 → pick t (Some k) (candidate m) ≡ candidate (pick t k m)
picked_candidate true k m h = some_is k h
picked_candidate false k m h = refl

-- ---- who leaves

-- of the first n candidates one leaves; candidate n + 1 is compared with that one
module _ (left : List ℕ) (count : ℕ → ℕ) (n : ℕ) {o : Option ℕ} (is : o ≡ candidate (fewest_among left count n)) where
  stands_is : {b : Bool} → standing left (n + 1) ≡ b → standing left (suc n) ≡ b
  stands_is h = rw (add-one n) at h

  pub fewest_gone : standing left (n + 1) ≡ false → o ≡ candidate (fewest_among left count (n + 1))
  unfolding fewest_among fewer
  fewest_gone h = rw (add-one n) (is ∙ ap candidate (sym (unpicked (suc n) (fewest_among left count n) (sym (and_stop _ _ (stands_is h))))))

  module _ {t : Bool} (e : t ≡ (equal (unwrap_or o 0) 0 or at_most (count (n + 1)) (count (unwrap_or o 0)))) where
    least_is : t ≡ (equal (fewest_among left count n) 0 or at_most (count (suc n)) (count (fewest_among left count n)))
    least_is =
        e ∙ ap₂ (λ (m k : ℕ). equal k 0 or at_most (count m) (count k)) (add-one n)
        (ap (λ (p : Option ℕ). unwrap_or p 0) is ∙ number_is (fewest_among left count n))

    pub fewest_new : standing left (n + 1) ≡ true → t ≡ true → Some (n + 1) ≡ candidate (fewest_among left count (n + 1))
    unfolding fewest_among fewer
    fewest_new h g =
        rw (add-one n) (ap candidate (sym (picked (suc n) (fewest_among left count n) (sym (and_go _ _ (stands_is h) (sym (sym least_is ∙ g)))))))

    pub fewest_old : t ≡ false → o ≡ candidate (fewest_among left count (n + 1))
    unfolding fewest_among fewer
    fewest_old g =
        rw (add-one n) (is ∙ ap candidate (sym (unpicked (suc n) (fewest_among left count n) (sym (and_last_stop _ _ (sym least_is ∙ g))))))

-- ---- who wins

module _ (counting : ℕ) (count : ℕ → ℕ) (n : ℕ) where
  pub winner_next : counting / 2 < count (n + 1) → n + 1 ≡ winner_among counting count (n + 1)
  unfolding winner_among
  winner_next l = rw (add-one n) (sym (picked (suc n) (winner_among counting count n) (is_below (omega (arith, rw (add-one n) at l)))))

  pub winner_before : count (n + 1) ≤ counting / 2 → winner_among counting count n ≡ winner_among counting count (n + 1)
  unfolding winner_among
  winner_before l = rw (add-one n) (sym (unpicked (suc n) (winner_among counting count n) (not_below (omega (arith, rw (add-one n) at l)))))

-- who wins and who leaves is one of those there are
pub winner_within : (counting : ℕ) (count : ℕ → ℕ) (n : ℕ) → winner_among counting count n ≤ n
unfolding winner_among
winner_within counting count zero = omega arith
winner_within counting count (suc n) = go (below counting (2 * count (suc n))) (winner_within counting count n)
  where
    go : (b : Bool) → winner_among counting count n ≤ n → pick b (suc n) (winner_among counting count n) ≤ suc n
    go true h = omega arith
    go false h = omega arith

pub fewer_most : (left : List ℕ) (count : ℕ → ℕ) (n k : ℕ) → k ≤ n → fewer left count (n + 1) k ≤ n + 1
unfolding fewer
fewer_most left count n k h = go (standing left (n + 1) and (equal k 0 or at_most (count (n + 1)) (count k)))
  where
    go : (b : Bool) → pick b (n + 1) k ≤ n + 1
    go true = omega arith
    go false = omega arith

pub fewest_within : (left : List ℕ) (count : ℕ → ℕ) (n : ℕ) → fewest_among left count n ≤ n
unfolding fewest_among
fewest_within left count zero = omega arith
fewest_within left count (suc n) = rw (add-one n) at (fewer_most left count n (fewest_among left count n) (fewest_within left count n))

-- counts that are the same let the same one leave
pub fewer_same : (f g : ℕ → ℕ) (left : List ℕ) (k o p : ℕ) → o ≡ p → f k ≡ g k → (p ≢ 0 → f p ≡ g p) → fewer left f k o ≡ fewer left g k p
unfolding fewer
fewer_same f g left k o p e h at =
    ap (fewer left f k) e ∙ ap (λ (t : Bool). pick (standing left k and t) k p) (go (ℕ_discrete p 0))
  where
    go : Dec (p ≡ 0) → (equal p 0 or at_most (f k) (f p)) ≡ (equal p 0 or at_most (g k) (g p))
    go (yes z) = sym (or_stop _ _ (is_equal z)) ∙ or_stop _ _ (is_equal z)
    go (no z) = ap₂ (λ (a b : ℕ). equal p 0 or at_most a b) h (at z)
