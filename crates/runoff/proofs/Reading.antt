-- Document 02, item 2: "A vote's decimal digits, from the left, are candidates 1 to 9." What ties a ranking to the number, and what makes
-- it valid.
use mathlib.Core.Path.{◌≡◌, refl, ap, ◌∙◌}
use mathlib.Core.Logic.{◌≢◌, ◌↔◌, ◌⊎◌, inl, inr}
use mathlib.Core.Bool.{true}
use mathlib.Core.List.{List, [], ◌∷◌, map}
use Prim.Native.Nat.{ℕ, ◌+◌, ◌-◌, ◌*◌, ◌≤◌, ◌<◌}
use native.Mathlib.Omega.{arith}
use lib.ListN.{length, length-map, get_or-map}
use Rattle.laws.specs.Tests.{and_iff, at_most_iff, equal_iff, is_equal, is_at_most}
use Rattle.laws.specs.Sorting.{count, is, is_self, is_cases}
use Rattle.protocol.specs.Terms.{item, decimal}
use Rattle.protocol.proofs.Digits.{read_from, decimal_read, decimal_are, decimal_leads}
use Rattle.runoff.specs.Ranking.{ranking, ranks, valid}

-- ---- the digits are the number's

-- the number that digits say, read from the left: ten times what came before, and the digit
abbrev pub read_digits : ℕ → List ℕ → ℕ
read_digits x [] = x
read_digits x (d ∷ ds) = read_digits (10 * x + d) ds

-- the characters less 48 say the same number
read_characters : (x : ℕ) (l : List ℕ) → read_digits x (map (λ character. character - 48) l) ≡ read_from x l
read_characters x [] = refl
read_characters x (c ∷ cs) =
    let e : 10 * x + (c - 48) ≡ x * 10 + (c - 48) = omega arith in
    ap (λ (n : ℕ). read_digits n (map (λ character. character - 48) cs)) e ∙ read_characters (x * 10 + (c - 48)) cs

-- read from the left the ranking is the vote; every announced vote is below 10,000,000,000
pub ranking_read : (vote : ℕ) → vote < 10000000000 → read_digits 0 (ranking vote) ≡ vote
unfolding ranking
ranking_read vote h = read_characters 0 (decimal vote) ∙ decimal_read vote h

ranking_item : (vote i : ℕ) → item (ranking vote) i ≡ item (decimal vote) i - 48
unfolding ranking
ranking_item vote i = get_or-map (λ character. character - 48) (decimal vote) i 0

-- each digit is one
pub ranking_digits : (vote i : ℕ) → i < length (ranking vote) → item (ranking vote) i ≤ 9
unfolding ranking
ranking_digits vote i l =
    omega (arith, ranking_item vote i, (decimal_are vote i (omega (arith, length-map (decimal vote) (λ character. character - 48)))).1)

-- and the first is not 0, but in the vote 0
pub ranking_leads : (vote : ℕ) → 1 ≤ vote → vote < 10000000000 → 1 ≤ item (ranking vote) 0
ranking_leads vote some h = omega (arith, ranking_item vote 0, decimal_leads vote some h)

-- ---- "No digit is 0, above the number of candidates or repeated"

pub record Once (candidates : ℕ) (ks : List ℕ) (d : ℕ) : Type 0 where
  pub from : 1 ≤ d
  pub to : d ≤ candidates
  pub once : count d ks ≡ 1

ranks_once : (candidates : ℕ) (ks : List ℕ) → ranks candidates ks ≡ true → (d : ℕ) → 1 ≤ count d ks → Once candidates ks d
unfolding ranks
ranks_once candidates [] h d l = absurd (omega arith)
ranks_once candidates (k ∷ ks) h d l =
    let (a, b) = (and_iff _ _).0 h in
    let (low, high) = (and_iff _ _).0 a in
    let (new, rest) = (and_iff _ _).0 b in
    go ((at_most_iff 1 k).0 low) ((at_most_iff k candidates).0 high) ((equal_iff _ 0).0 new) (ranks_once candidates ks rest d) (is_cases d k)
  where
    go : 1 ≤ k → k ≤ candidates → count k ks ≡ 0 → (1 ≤ count d ks → Once candidates ks d) → ((d ≡ k) × (is d k ≡ 1)) ⊎ ((d ≢ k) × (is d k ≡ 0)) → Once candidates (k ∷ ks) d
    go low high new ih (inl (same, one)) = record { from = omega arith; to = omega arith; once = omega (arith, ap (λ (x : ℕ). count x ks) same) }
    go low high new ih (inr (other, none)) =
        let o = ih (omega arith) in
        record { from = o.from; to = o.to; once = omega (arith, o.once) }

once_ranks : (candidates : ℕ) (ks : List ℕ) → ((d : ℕ) → 1 ≤ count d ks → Once candidates ks d) → ranks candidates ks ≡ true
unfolding ranks
once_ranks candidates [] h = refl
once_ranks candidates (k ∷ ks) h =
    let o = h k (omega (arith, is_self k)) in
    (and_iff _ _).1 (
      (and_iff _ _).1 (is_at_most o.from, is_at_most o.to),
      (and_iff _ _).1 (is_equal (omega (arith, o.once, is_self k)), once_ranks candidates ks (λ d l. rest d l (h d (omega arith)))),
    )
  where
    rest : (d : ℕ) → 1 ≤ count d ks → Once candidates (k ∷ ks) d → Once candidates ks d
    rest d l o = record { from = o.from; to = o.to; once = omega (arith, o.once) }

-- a vote is valid exactly if every digit that stands in it is a candidate's number and stands in it once
pub valid_digits : (candidates vote : ℕ) → (valid candidates vote ≡ true) ↔ ((d : ℕ) → 1 ≤ count d (ranking vote) → Once candidates (ranking vote) d)
unfolding valid
valid_digits candidates vote = (ranks_once candidates (ranking vote), once_ranks candidates (ranking vote))
