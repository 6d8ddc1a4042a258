-- What the servers of a column test alike, and what they make of: slices of one length whose numbers are in their limits.
use Rattle.std.specs.Prelude.{◌≡◌, ◌==◌, List, ℕ, ◌<◌, length}
use Rattle.std.specs.List.{list_all}
use Rattle.laws.specs.Tests.{◌and◌}
use Rattle.laws.specs.Faults.{rule}
use Rattle.laws.specs.Bytes.{Below}
use Rattle.protocol.specs.Terms.{all_below, modulus_in_limits, ballots_in_limits}

-- n is the due length of every slice that is lent; `rest` is what is tested behind the numbers
unfoldable pub column_refusal : ℕ → ℕ → List ℕ → List ℕ → List ℕ → ℕ → ℕ
column_refusal modulus n lengths first second rest =
    rule 3 (modulus_in_limits modulus and ballots_in_limits n)
    (rule 18 (list_all (λ k. k == n) lengths)
    (rule 10 (all_below modulus first and all_below modulus second) rest))

pub record PairReady (modulus : ℕ) (first second : List ℕ) (out : ℕ) : Type 0 where
  pub positive : 0 < modulus
  pub second_long : length second ≡ length first
  pub out_long : out ≡ length first
  pub first_below : Below modulus first
  pub second_below : Below modulus second

pub record RowReady (modulus : ℕ) (numbers offsets permutation : List ℕ) (out : ℕ) : Type 0 where
  pub pair : PairReady modulus numbers offsets out
  pub permutation_long : length permutation ≡ length numbers
  pub places : Below (length numbers) permutation
