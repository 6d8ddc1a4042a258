-- f 0, .., f (n - 1) as a list, and loops that fill one.
use Rattle.std.specs.Prelude.{◌≡◌, refl, List, [], ◌∷◌, ◌++◌, ℕ, zero, suc, ◌+◌, ◌<◌, length, get_or, set, drop}
use Rattle.std.proofs.Common.{sym, ap, ap₂, ◌∙◌, append_assoc, append-nil, le_refl, add-one, arith, length-append, length-set, drop-cons, ext_get_or}
use Rattle.std.proofs.Math.Decide.{ℕ_discrete}
use Rattle.std.proofs.Math.ListN.{get_or-append}
use Rattle.std.proofs.Math.Seq.{drop-length}
use Rattle.std.proofs.lemmas.List.{set_at, get_or_at}

unfoldable pub tabulate : (ℕ → ℕ) → ℕ → List ℕ
tabulate f zero = []
tabulate f (suc n) = tabulate f n ++ (f n ∷ [])

-- ---- laws

pub length_tabulate : (f : ℕ → ℕ) (n : ℕ) → length (tabulate f n) ≡ n
unfolding tabulate
length_tabulate f zero = refl
length_tabulate f (suc n) = omega (arith, length-append (tabulate f n) (f n ∷ []), length_tabulate f n)

pub get_tabulate : (f : ℕ → ℕ) (n j : ℕ) → j < n → get_or (tabulate f n) j 0 ≡ f j
unfolding tabulate
get_tabulate f zero j l = absurd (omega arith)
get_tabulate f (suc n) j l = go (ℕ_discrete j n) (get_tabulate f n j)
  where
    go : Dec (j ≡ n) → (j < n → get_or (tabulate f n) j 0 ≡ f j) → get_or (tabulate f n ++ (f n ∷ [])) j 0 ≡ f j
    go (yes e) ih = get_or_at (tabulate f n) (f n) [] 0 j (length_tabulate f n ∙ sym e) ∙ ap f (sym e)
    go (no ne) ih = get_or-append (tabulate f n) (f n ∷ []) 0 j (omega (arith, length_tabulate f n)) ∙ ih (omega arith)

-- the first i of out are written
pub record Filled (f : ℕ → ℕ) (i : ℕ) (out₀ out : List ℕ) : Type 0 where
  pub is : out ≡ tabulate f i ++ drop i out₀
  pub long : length out ≡ length out₀

pub none_filled : (f : ℕ → ℕ) (out : List ℕ) → Filled f 0 out out
unfolding tabulate
none_filled f out = record { is = refl; long = refl }

pub one_filled : {f : ℕ → ℕ} {i : ℕ} {out₀ out : List ℕ} (v : ℕ) → Filled f i out₀ out → i < length out₀ → v ≡ f i → Filled f (i + 1) out₀ (set out i v)
unfolding tabulate
one_filled {f} {i} {out₀} {out} v h l e = record { is = eq; long = length-set out i v ∙ h.long }
  where
    eq : set out i v ≡ tabulate f (i + 1) ++ drop (i + 1) out₀
    eq =
        ap₂ (λ (d : List ℕ) (x : ℕ). set d i x) (h.is ∙ ap (λ (d : List ℕ). tabulate f i ++ d) (drop-cons out₀ i 0 l)) e
        ∙ set_at (tabulate f i) (get_or out₀ i 0) (drop (suc i) out₀) (f i) i (length_tabulate f i)
        ∙ sym (append_assoc (tabulate f i) (f i ∷ []) (drop (suc i) out₀))
        ∙ ap (λ (n : ℕ). tabulate f n ++ drop n out₀) (sym (add-one i))

pub all_filled : {f : ℕ → ℕ} {i : ℕ} {out₀ out : List ℕ} (n : ℕ) → Filled f i out₀ out → i ≡ n → length out₀ ≡ n → out ≡ tabulate f n
all_filled {f} {i} {out₀} {out} n h e l =
    h.is ∙ ap (λ (k : ℕ). tabulate f k ++ drop k out₀) (e ∙ sym l) ∙ ap (λ (d : List ℕ). tabulate f (length out₀) ++ d) (drop-length out₀)
    ∙ append-nil (tabulate f (length out₀)) ∙ ap (tabulate f) l

-- ---- a tabulate that is written out of order
pub same_tabulate : (f g : ℕ → ℕ) (n : ℕ) → ((j : ℕ) → j < n → f j ≡ g j) → tabulate f n ≡ tabulate g n
unfolding tabulate
same_tabulate f g zero h = refl
same_tabulate f g (suc n) h = ap₂ (λ (x : List ℕ) (y : ℕ). x ++ (y ∷ [])) (same_tabulate f g n (λ j l. h j (omega arith))) (h n (le_refl (suc n)))

pub tabulate_of : (l : List ℕ) (f : ℕ → ℕ) (n : ℕ) → length l ≡ n → ((j : ℕ) → j < n → get_or l j 0 ≡ f j) → l ≡ tabulate f n
tabulate_of l f n e h = ext_get_or 0 l (tabulate f n) (e ∙ sym (length_tabulate f n)) (λ j k. h j (omega arith) ∙ sym (get_tabulate f n j (omega arith)))
