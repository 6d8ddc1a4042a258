-- Lists that were filled from functions: when the one's values are the other's in some order.
use mathlib.Core.Path.{◌≡◌, ap, ◌∙◌}
use mathlib.Core.List.{List}
use Prim.Native.Nat.{ℕ, suc, ◌≤◌, ◌<◌}
use native.Mathlib.Omega.{arith}
use lib.ListN.{length, get_or}
use Rattle.laws.specs.Tables.{tabulate, length_tabulate, get_tabulate}
use Rattle.laws.specs.Sorting.{Sorted}
use Rattle.laws.specs.Permuting.{permutes, places, permutes_same, rises_sorted}

filled_length : {xs : List ℕ} (f : ℕ → ℕ) (n : ℕ) → xs ≡ tabulate f n → length xs ≡ n
filled_length f n e = ap length e ∙ length_tabulate f n

filled_get : {xs : List ℕ} (f : ℕ → ℕ) (n : ℕ) → xs ≡ tabulate f n → (j : ℕ) → j < n → get_or xs j 0 ≡ f j
filled_get f n e j l = ap (λ (x : List ℕ). get_or x j 0) e ∙ get_tabulate f n j l

pub filled_sorted : {xs : List ℕ} (f : ℕ → ℕ) (n : ℕ) → xs ≡ tabulate f n → ((i : ℕ) → suc i < n → f i ≤ f (suc i)) → Sorted xs
filled_sorted {xs} f n e h =
    let long = filled_length f n e in
    rises_sorted xs (λ j l. omega (arith, filled_get f n e j (omega arith), filled_get f n e (suc j) (omega arith), h j (omega arith)))

pub filled_permutes : {xs ys : List ℕ} (f g : ℕ → ℕ) (n : ℕ) → xs ≡ tabulate f n → ys ≡ tabulate g n → permutes (places xs) (places ys) (length ys) ≡ permutes f g n
filled_permutes {xs} {ys} f g n d e =
    ap (permutes (places xs) (places ys)) (filled_length g n e) ∙ permutes_same (places xs) f (places ys) g n (filled_get f n d) (filled_get g n e)
