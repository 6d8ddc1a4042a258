-- How many numbers of a list meet a test. It depends on how often each number stands there, not on their order.
use Rattle.std.specs.Prelude.{◌≡◌, refl, ◌≢◌, Bool, true, false, List, [], ◌∷◌, ℕ, suc, ◌+◌, ◌≤◌, ◌<◌, leb, length, drop, get_or}
use Rattle.std.proofs.Common.{sym, ap, ◌∙◌, add-one, arith, drop-cons}
use Rattle.std.proofs.Math.Seq.{drop-length}
use Rattle.laws.specs.Tests.{pick}
use Rattle.laws.specs.Sums.{one_if}
use Rattle.laws.specs.Sorting.{SameCounts, insert, sort, sort_sorted, count_sort, sorted_unique}

unfoldable pub how_many : (ℕ → Bool) → List ℕ → ℕ
how_many test [] = 0
how_many test (x ∷ xs) = one_if (test x) + how_many test xs

-- ---- the order does not matter

insert_many : (test : ℕ → Bool) (x : ℕ) (ys : List ℕ) → how_many test (insert x ys) ≡ one_if (test x) + how_many test ys
unfolding how_many
insert_many test x [] = refl
insert_many test x (y ∷ ys) = go (leb x y) (insert_many test x ys)
  where
    go : (b : Bool) → how_many test (insert x ys) ≡ one_if (test x) + how_many test ys
        → how_many test (pick b (x ∷ y ∷ ys) (y ∷ insert x ys)) ≡ one_if (test x) + (one_if (test y) + how_many test ys)
    go true ih = refl
    go false ih = omega arith

sort_many : (test : ℕ → Bool) (xs : List ℕ) → how_many test (sort xs) ≡ how_many test xs
unfolding how_many
sort_many test [] = refl
sort_many test (x ∷ xs) = insert_many test x (sort xs) ∙ ap (λ (n : ℕ). one_if (test x) + n) (sort_many test xs)

pub many_alike : (test : ℕ → Bool) (xs ys : List ℕ) → SameCounts xs ys → how_many test xs ≡ how_many test ys
many_alike test xs ys h =
    sym (sort_many test xs)
    ∙ ap (how_many test) (sorted_unique (sort xs) (sort ys) (sort_sorted xs) (sort_sorted ys) (λ x. count_sort xs x ∙ h x ∙ sym (count_sort ys x)))
    ∙ sort_many test ys

-- ---- two tests, and more

pub many_same : (t u : ℕ → Bool) (xs : List ℕ) → ((x : ℕ) → t x ≡ u x) → how_many t xs ≡ how_many u xs
unfolding how_many
many_same t u [] h = refl
many_same t u (x ∷ xs) h = omega (arith, ap one_if (h x), many_same t u xs h)

pub many_none : (t : ℕ → Bool) (xs : List ℕ) → ((x : ℕ) → t x ≡ false) → how_many t xs ≡ 0
unfolding how_many
many_none t [] h = refl
many_none t (x ∷ xs) h = omega (arith, ap one_if (h x), many_none t xs h)

-- where the first of three tests holds as often as the two others together
pub many_split : (t u w : ℕ → Bool) (xs : List ℕ) → ((x : ℕ) → one_if (t x) ≡ one_if (u x) + one_if (w x)) → how_many t xs ≡ how_many u xs + how_many w xs
unfolding how_many
many_split t u w [] h = refl
many_split t u w (x ∷ xs) h = omega (arith, h x, many_split t u w xs h)

-- where it holds at most as often as the two others together, and where the two others hold together at most as often
pub many_within : (t u w : ℕ → Bool) (xs : List ℕ) → ((x : ℕ) → one_if (t x) ≤ one_if (u x) + one_if (w x)) → how_many t xs ≤ how_many u xs + how_many w xs
unfolding how_many
many_within t u w [] h = omega arith
many_within t u w (x ∷ xs) h = omega (arith, h x, many_within t u w xs h)

pub many_both : (u w t : ℕ → Bool) (xs : List ℕ) → ((x : ℕ) → one_if (u x) + one_if (w x) ≤ one_if (t x)) → how_many u xs + how_many w xs ≤ how_many t xs
unfolding how_many
many_both u w t [] h = omega arith
many_both u w t (x ∷ xs) h = omega (arith, h x, many_both u w t xs h)

-- a test that every number meets counts them all
pub many_all : (t : ℕ → Bool) (xs : List ℕ) → ((x : ℕ) → t x ≡ true) → how_many t xs ≡ length xs
unfolding how_many
many_all t [] h = refl
many_all t (x ∷ xs) h = omega (arith, ap one_if (h x), many_all t xs h)

pub many_most : (t : ℕ → Bool) (xs : List ℕ) → how_many t xs ≤ length xs
unfolding how_many
many_most t [] = omega arith
many_most t (x ∷ xs) = go (t x) (many_most t xs)
  where
    go : (b : Bool) → how_many t xs ≤ length xs → one_if b + how_many t xs ≤ suc (length xs)
    go true ih = omega arith
    go false ih = omega arith

-- where some are counted, one of them meets the test
pub many_some : (t : ℕ → Bool) (xs : List ℕ) → how_many t xs ≢ 0 → (x : ℕ) × (t x ≡ true)
unfolding how_many
many_some t [] h = absurd (h refl)
many_some t (x ∷ xs) h = go (t x) refl (many_some t xs)
  where
    go : (b : Bool) → t x ≡ b → (how_many t xs ≢ 0 → (x : ℕ) × (t x ≡ true)) → (x : ℕ) × (t x ≡ true)
    go true e ih = (x, e)
    go false e ih = ih (λ z. h (omega (arith, ap one_if e, z)))

-- ---- a loop that counts: what is counted of the first i, with what is left, is the whole

many_next : (t : ℕ → Bool) (xs : List ℕ) (i : ℕ) → i < length xs
    → how_many t (drop i xs) ≡ one_if (t (get_or xs i 0)) + how_many t (drop (i + 1) xs)
unfolding how_many
many_next t xs i l = rw (add-one i) (ap (how_many t) (drop-cons xs i 0 l))

many_end : (t : ℕ → Bool) (xs : List ℕ) (i : ℕ) → i ≡ length xs → how_many t (drop i xs) ≡ 0
unfolding how_many
many_end t xs i e = rw e (ap (how_many t) (drop-length xs))

pub record Counted (t : ℕ → Bool) (xs : List ℕ) (i n : ℕ) : Type 0 where
  pub within : i ≤ length xs
  pub most : n ≤ i
  pub with_rest : n + how_many t (drop i xs) ≡ how_many t xs

pub none_counted : (t : ℕ → Bool) (xs : List ℕ) → Counted t xs 0 0
none_counted t xs = record { within = omega arith; most = omega arith; with_rest = omega arith }

one_most : (b : Bool) → one_if b ≤ 1
one_most true = omega arith
one_most false = omega arith

pub one_counted : {t : ℕ → Bool} {xs : List ℕ} {i n : ℕ} (m : ℕ) → Counted t xs i n → i < length xs → m ≡ n + one_if (t (get_or xs i 0)) → Counted t xs (i + 1) m
one_counted {t} {xs} {i} {n} m h l e = record {
  within = omega arith;
  most = omega (arith, h.most, one_most (t (get_or xs i 0)));
  with_rest = omega (arith, h.with_rest, many_next t xs i l);
}

pub all_counted : {t : ℕ → Bool} {xs : List ℕ} {i n : ℕ} → Counted t xs i n → i ≡ length xs → n ≡ how_many t xs
all_counted {t} {xs} {i} {n} h e = omega (arith, h.with_rest, many_end t xs i e)
