-- Document 01, "Servers' writing": the three calls as one election. "mask or sides are given with them, or drawn from these dice and the
-- earlier parts as lent"; "Parts written from the same inputs and mask, any draw made on the parts written before, form one record".
use Rattle.std.specs.Prelude.{Bool, true, false, List, ◌++◌, ℕ, length, Option, Some, None}
use denote.Ref.{Bor}
use Rattle.laws.specs.Tests.{equal, ◌and◌}
use Rattle.protocol.specs.declared.Parameters.{Parameters}
use Rattle.protocol.specs.Layout.{record_length, part_one_length, part_two_length, part_three_length}
use Rattle.protocol.specs.Rules.{fair_dice, right_shape}
use Rattle.protocol.specs.Inputs.{Slices}
use Rattle.protocol.specs.Refusals.{refusal, binary_sides, part_two_refusal, part_two_drawn_refusal, part_three_refusal, part_three_drawn_refusal}
use Rattle.protocol.specs.Servers.{first_part, second_part, mask_for, third_part, sides_for}

-- what is given, or drawn
pub data Choice (A : Type 0) : Type 0 where
  chosen : A → Choice A
  drawn : Choice A

-- by a switch that says whether it is given
unfoldable pub choice_of : {A : Type 0} → Bool → A → Choice A
choice_of true x = chosen x
choice_of false x = drawn

-- .. and as code lends it: a mask, and sides
abbrev pub choice_in : {A : Type 0} → Option A → Choice A
choice_in (Some x) = chosen x
choice_in None = drawn

abbrev pub sides_lent : Option (Bor (List ℕ)) → Choice (List ℕ)
sides_lent (Some sides) = chosen sides.now
sides_lent None = drawn

-- tests of a mask and of sides that are given; what is drawn needs none
unfoldable pub mask_in_shape : Parameters → Choice ℕ → Bool
mask_in_shape p (chosen mask) = right_shape p.compared mask
mask_in_shape p drawn = true

unfoldable pub sides_due : Parameters → Choice (List ℕ) → Bool
sides_due p (chosen sides) = equal (length sides) p.ballots
sides_due p drawn = true

module _ (s : Slices) where
  unfoldable pub mask_by : Choice ℕ → List ℕ → List ℕ → ℕ
  mask_by (chosen mask) dice one = mask
  mask_by drawn dice one = mask_for s dice one

  unfoldable pub sides_by : Choice (List ℕ) → List ℕ → List ℕ → List ℕ → List ℕ
  sides_by (chosen sides) dice one two = sides
  sides_by drawn dice one two = sides_for s dice one two

  -- what the second and the third call refuse
  unfoldable pub second_refusal : Choice ℕ → List ℕ → ℕ → ℕ → ℕ
  second_refusal (chosen mask) dice one_long out_long = part_two_refusal s dice mask out_long
  second_refusal drawn dice one_long out_long = part_two_drawn_refusal s dice one_long out_long

  unfoldable pub third_refusal : Choice (List ℕ) → List ℕ → ℕ → ℕ → ℕ → ℕ → ℕ
  third_refusal (chosen sides) dice mask one_long two_long out_long = part_three_refusal s dice mask sides out_long
  third_refusal drawn dice mask one_long two_long out_long = part_three_drawn_refusal s dice mask one_long two_long out_long

  module _ (by_mask : Choice ℕ) (dice₁ : List ℕ) where
    -- the mask that the second call writes and the third is given
    unfoldable pub election_mask : ℕ
    election_mask = mask_by by_mask dice₁ (first_part s)

    unfoldable pub election_two : List ℕ
    election_two = second_part s dice₁ election_mask

    module _ (by_sides : Choice (List ℕ)) (dice₂ : List ℕ) where
      unfoldable pub election_sides : List ℕ
      election_sides = sides_by by_sides dice₂ (first_part s) election_two

      unfoldable pub election_three : List ℕ
      election_three = third_part s dice₂ election_mask election_sides

      -- "the three buffers as these calls left them, joined in order"
      unfoldable pub election_record : List ℕ
      election_record = first_part s ++ (election_two ++ election_three)

  -- ---- what an election refuses

  unfoldable pub sides_binary : Choice (List ℕ) → Bool
  sides_binary (chosen sides) = binary_sides s sides
  sides_binary drawn = true

  -- "Writers test 3, then 18, then the rest in rising number, each over the whole input": here the inputs of all three calls, and the four
  -- buffers' lengths
  unfoldable pub election_refusal : Choice ℕ → List ℕ → Choice (List ℕ) → List ℕ → ℕ → ℕ → ℕ → ℕ → ℕ
  election_refusal by_mask dice₁ by_sides dice₂ one_long two_long three_long joined_long =
      let p = s.parameters in
      refusal s
      (equal (length dice₁) 30 and equal (length dice₂) 30 and sides_due p by_sides and equal one_long (part_one_length p)
      and equal two_long (part_two_length p)
      and equal three_long (part_three_length p)
      and equal joined_long (record_length p))
      (fair_dice dice₁ and fair_dice dice₂) (mask_in_shape p by_mask) (sides_binary by_sides)
