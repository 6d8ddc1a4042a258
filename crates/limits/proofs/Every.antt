-- A test of all items of a list, as a test at every place.
use mathlib.Core.Path.{◌≡◌, refl, sym, ap, ◌∙◌}
use mathlib.Core.Bool.{Bool}
use mathlib.Core.List.{List}
use Prim.Native.Nat.{ℕ, zero, suc, ◌≤◌}
use native.Mathlib.Omega.{arith}
use lib.ListN.{length, get_or, take}
use lib.Seq.{take-length}
use Rattle.std.specs.List.{list_all}
use Rattle.std.proofs.Common.{add-one}
use Rattle.std.proofs.lemmas.List.Folds.{list_all_more}
use Rattle.laws.specs.Tests.{every, every_turn}

all_every : (p : ℕ → Bool) (xs : List ℕ) (n : ℕ) → n ≤ length xs → list_all p (take n xs) ≡ every (λ i. p (get_or xs i 0)) n
unfolding every
all_every p xs zero h = refl
all_every p xs (suc n) h =
    ap (λ (k : ℕ). list_all p (take k xs)) (sym (add-one n)) ∙ list_all_more p xs n 0 (omega arith)
    ∙ every_turn (λ i. p (get_or xs i 0)) n (all_every p xs n (omega arith)) ∙ ap (every (λ i. p (get_or xs i 0))) (add-one n)

pub all_items : (p : ℕ → Bool) (xs : List ℕ) (n : ℕ) → length xs ≡ n → list_all p xs ≡ every (λ i. p (get_or xs i 0)) n
all_items p xs n e = ap (list_all p) (sym (take-length xs) ∙ ap (λ (k : ℕ). take k xs) e) ∙ all_every p xs n (omega arith)
