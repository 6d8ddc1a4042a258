-- Document 01, "Servers' writing": what the servers refuse.
use Rattle.std.specs.Prelude.{Bool, true, List, ℕ, zero, suc, ◌+◌, ◌-◌, ◌*◌, length}
use Rattle.laws.specs.Tests.{equal, below, at_most, ◌and◌, ◌or◌, every}
use Rattle.laws.specs.Faults.{rule, kept}
use Rattle.protocol.specs.Terms.{item, all_below, in_limits}
use Rattle.protocol.specs.Columns.{is_permutation}
use Rattle.protocol.specs.Layout.{lists, part_one_length, part_two_length, part_three_length}
use Rattle.protocol.specs.Rules.{fair_dice, right_shape, original}
use Rattle.protocol.specs.Inputs.{Slices, numbers_per_ballot, numbers_per_entry, permutations_per_entry, keys_width, inputs_of}
use Rattle.protocol.specs.Servers.{posted_board}

module _ (s : Slices) where
  -- ---- refusals: "Writers test 3, then 18, then the rest in rising number, each over the whole input."

  -- "Every slice has exactly its due length."
  unfoldable pub due_lengths : Bool
  due_lengths =
      let n = s.parameters.ballots in
      let mn = s.parameters.compared * s.parameters.ballots in
      equal (length s.ids) n
      and equal (length s.votes) n
      and equal (length s.numbers) (numbers_per_ballot * n + 2 * numbers_per_entry * mn)
      and equal (length s.permutations) (2 * permutations_per_entry * mn)
      and equal (length s.keys) (keys_width * n + 2 * keys_width * mn)

  -- 5, "an id not above the one before"
  unfoldable pub ids_rise : Bool
  ids_rise = every (λ j. equal j 0 or below (item s.ids (j - 1)) (item s.ids j)) s.parameters.ballots

  -- 19, "a permutation that is none"
  unfoldable pub all_permutations : Bool
  all_permutations = every (λ l. every (λ c. is_permutation s.parameters.ballots ((inputs_of s).permutation l c)) 3) (lists s.parameters)

  -- 21, document 02, item 5: "Servers refuse inputs that would produce such a board."
  unfoldable pub all_original : Bool
  all_original = every (original (posted_board (inputs_of s)).ballot_commitment) s.parameters.ballots

  -- the tests of every part, 21 "last in the writer's order"; those of its other slices, dice, mask and sides are a part's own
  unfoldable pub refusal : Bool → Bool → Bool → Bool → ℕ
  refusal lengths fair shape binary =
      rule 3 (in_limits s.parameters)
      (rule 18 (due_lengths and lengths)
      (rule 5 ids_rise
      (rule 6 fair
      (rule 7 shape
      (rule 10 (all_below s.parameters.modulus s.votes and all_below s.parameters.modulus s.numbers)
      (rule 11 binary (rule 19 all_permutations (rule 21 all_original kept))))))))

  -- part one into a buffer
  unfoldable pub part_one_refusal : ℕ → ℕ
  part_one_refusal out_long = refusal (equal out_long (part_one_length s.parameters)) true true true

  -- part two, mask given
  unfoldable pub part_two_refusal : List ℕ → ℕ → ℕ → ℕ
  part_two_refusal dice mask out_long =
      refusal (equal (length dice) 30 and equal out_long (part_two_length s.parameters)) (fair_dice dice)
      (right_shape s.parameters.compared mask) true

  -- part two, mask drawn from the dice and part one as lent
  unfoldable pub part_two_drawn_refusal : List ℕ → ℕ → ℕ → ℕ
  part_two_drawn_refusal dice one_long out_long =
      refusal
      (equal (length dice) 30 and equal one_long (part_one_length s.parameters) and equal out_long (part_two_length s.parameters))
      (fair_dice dice) true true

  -- part three, sides given: 11, "side byte above 1"
  unfoldable pub binary_sides : List ℕ → Bool
  binary_sides sides = every (λ j. at_most (item sides j) 1) s.parameters.ballots

  unfoldable pub part_three_refusal : List ℕ → ℕ → List ℕ → ℕ → ℕ
  part_three_refusal dice mask sides out_long =
      refusal (equal (length dice) 30 and equal (length sides) s.parameters.ballots and equal out_long (part_three_length s.parameters))
      (fair_dice dice) (right_shape s.parameters.compared mask) (binary_sides sides)

  -- part three, sides drawn from the dice and parts one and two as lent
  unfoldable pub part_three_drawn_refusal : List ℕ → ℕ → ℕ → ℕ → ℕ → ℕ
  part_three_drawn_refusal dice mask one_long two_long out_long =
      refusal
      (equal (length dice) 30 and equal one_long (part_one_length s.parameters) and equal two_long (part_two_length s.parameters)
      and equal out_long (part_three_length s.parameters))
      (fair_dice dice) (right_shape s.parameters.compared mask) true

-- "A refusal yields its number and nothing else, and no lent byte changes.": what an output holds at return
unfoldable pub afterwards : ℕ → List ℕ → List ℕ → List ℕ
afterwards zero before written = written
afterwards (suc k) before written = before
