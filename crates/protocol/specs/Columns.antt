-- Document 01, "Columns": what a row server does, row three's offsets, the split, and where a ballot goes.
use Rattle.std.specs.Prelude.{Bool, List, ℕ, length}
use Rattle.laws.specs.Tests.{equal, differ, below, ◌and◌, every}
use Rattle.laws.specs.Faults.{rule, kept}
use Rattle.laws.specs.Modular.{plus, minus}
use Rattle.laws.specs.Tables.{tabulate}
use Rattle.protocol.specs.Terms.{item, all_below, modulus_in_limits, ballots_in_limits}

-- "A row server adds its offset to each of its n numbers, then puts at place i the sum from place perm(i)."
unfoldable pub row : ℕ → (ℕ → ℕ) → (ℕ → ℕ) → (ℕ → ℕ) → ℕ → ℕ
row M offset perm x i = plus M (x (perm i)) (offset (perm i))

-- "At each place the three rows' offsets add to 0 modulo M: rows one and two are given, row three's is worked out."
unfoldable pub third_offset : ℕ → ℕ → ℕ → ℕ
third_offset M a b = minus M (minus M 0 a) b

-- "After three columns place i holds ballot s(i) = perm1(perm2(perm3(i)))."
unfoldable pub source : (ℕ → ℕ) → (ℕ → ℕ) → (ℕ → ℕ) → ℕ → ℕ
source perm1 perm2 perm3 i = perm1 (perm2 (perm3 i))

-- ---- the same of slices, each of n numbers

unfoldable pub row_server : ℕ → List ℕ → List ℕ → List ℕ → List ℕ
row_server M numbers offsets permutation = tabulate (row M (item offsets) (item permutation) (item numbers)) (length numbers)

unfoldable pub third_offsets : ℕ → List ℕ → List ℕ → List ℕ
third_offsets M first second = tabulate (λ i. third_offset M (item first i) (item second i)) (length first)

-- "The third column then splits each number with a given first half."
unfoldable pub second_halves : ℕ → List ℕ → List ℕ → List ℕ
second_halves M numbers first_halves = tabulate (λ i. minus M (item numbers i) (item first_halves i)) (length numbers)

-- rule 19: the places below n, each once
unfoldable pub is_permutation : ℕ → (ℕ → ℕ) → Bool
is_permutation n perm = every (λ i. below (perm i) n and every (λ j. differ (perm j) (perm i)) i) n

-- what a row server refuses
unfoldable pub row_refusal : ℕ → ℕ → List ℕ → List ℕ → List ℕ → ℕ → ℕ
row_refusal M n numbers offsets permutation out_long =
    rule 3 (modulus_in_limits M and ballots_in_limits n)
    (rule 18 (equal (length numbers) n and equal (length offsets) n and equal (length permutation) n and equal out_long n)
    (rule 10 (all_below M numbers and all_below M offsets) (rule 19 (is_permutation n (item permutation)) kept)))

-- what the working out of row three's offsets, and the split of a row, refuse
unfoldable pub pair_refusal : ℕ → ℕ → List ℕ → List ℕ → ℕ → ℕ
pair_refusal M n first second out_long =
    rule 3 (modulus_in_limits M and ballots_in_limits n)
    (rule 18 (equal (length first) n and equal (length second) n and equal out_long n)
    (rule 10 (all_below M first and all_below M second) kept))
