-- The servers' tests of document 01 over one slice each, and those behind the tests of limits and lengths.
use Rattle.std.specs.Prelude.{◌≡◌, refl, Bool, true, List, ℕ, ◌-◌, ◌*◌, length}
use Rattle.laws.specs.Tests.{equal, below, at_most, ◌and◌, ◌or◌, every}
use Rattle.laws.specs.Faults.{rule, kept}
use Rattle.laws.specs.Chunks.{piece}
use Rattle.protocol.specs.declared.Parameters.{Parameters}
use Rattle.protocol.specs.Terms.{item, all_below, in_limits}
use Rattle.protocol.specs.Columns.{is_permutation}
use Rattle.protocol.specs.Inputs.{Slices}
use Rattle.protocol.specs.Refusals.{due_lengths, ids_rise, all_permutations, all_original, refusal}
use Rattle.protocol.specs.Election.{Choice, chosen, drawn}

-- each number is above the one before
unfoldable pub rising : List ℕ → Bool
rising ids = every (λ j. equal j 0 or below (item ids (j - 1)) (item ids j)) (length ids)

-- each number is 0 or 1
unfoldable pub binary : List ℕ → Bool
binary sides = every (λ j. at_most (item sides j) 1) (length sides)

unfoldable pub binary_where : Choice (List ℕ) → Bool
binary_where (chosen sides) = binary sides
binary_where drawn = true

-- of permutations that stand one behind the other, three a list, each is one
unfoldable pub permutations_in : Parameters → List ℕ → Bool
permutations_in p permutations = every (λ c. is_permutation p.ballots (item (piece permutations (c * p.ballots) p.ballots))) (6 * p.compared)

-- rules 5, 6, 7, 10, 11, 19 and 21
unfoldable pub contents_refusal : Slices → Bool → Bool → Bool → ℕ
contents_refusal s fair shape binary =
    rule 5 (ids_rise s)
    (rule 6 fair
    (rule 7 shape
    (rule 10 (all_below s.parameters.modulus s.votes and all_below s.parameters.modulus s.numbers)
    (rule 11 binary (rule 19 (all_permutations s) (rule 21 (all_original s) kept))))))

-- the refusal of document 01 in these steps
pub refusal_is : (s : Slices) (lengths fair shape binary : Bool)
    → refusal s lengths fair shape binary ≡ rule 3 (in_limits s.parameters) (rule 18 (due_lengths s and lengths) (contents_refusal s fair shape binary))
unfolding refusal contents_refusal
refusal_is s lengths fair shape binary = refl
