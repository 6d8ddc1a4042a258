-- Document 01, "What is refused, by whose doing", "The operator of tablet or servers": what writers refuse, in plain statements, and which
-- tests come before.
use Rattle.std.specs.Prelude.{◌≡◌, ◌↔◌, ◌≢◌, ◌⊎◌, List, ℕ, suc, ◌+◌, ◌*◌, ◌^◌, ◌≤◌, ◌<◌, length}
use Rattle.std.specs.Int.Count.{ones}
use Rattle.protocol.specs.declared.Parameters.{Parameters}
use Rattle.protocol.specs.Terms.{item}
use Rattle.protocol.specs.Layout.{lists, record_length, part_one_length, part_two_length, part_three_length}
use Rattle.protocol.specs.Inputs.{Slices, inputs_of}
use Rattle.protocol.specs.Servers.{posted_board}
use Rattle.protocol.specs.Election.{Choice, chosen, drawn}
use Rattle.protocol.specs.Broken.{ModulusOutside, BallotsOutside, ListsOutside, Unfair}

-- "Writers test 3, then 18, then the rest in rising number, each over the whole input.": the tests, each with its number, and their order
pub data InputTest : Type 0 where
  three : InputTest
  eighteen : InputTest
  rest : ℕ → InputTest

abbrev pub input_number : InputTest → ℕ
input_number three = 3
input_number eighteen = 18
input_number (rest k) = k

abbrev pub input_rank : InputTest → ℕ
input_rank three = 0
input_rank eighteen = 1
input_rank (rest k) = 2 + k

-- what is wrong with what a writer is given; `⊥` where it is given nothing of the kind
pub record Wrong : Type 1 where
  pub limits : Type 0
  pub lengths : Type 0
  pub ids : Type 0
  pub dice : Type 0
  pub mask : Type 0
  pub numbers : Type 0
  pub sides : Type 0
  pub permutations : Type 0
  pub copies : Type 0

pub data Unfit (w : Wrong) : InputTest → Type 0 where
  -- 3 "M, n or m outside its limits"
  outside_limits : w.limits → Unfit w three
  -- 18 "a slice of another length than due"
  other_length : w.lengths → Unfit w eighteen
  -- 5 "an id not above the one before"
  not_above : w.ids → Unfit w (rest 5)
  -- 6 "a dice byte outside '1' to '6'"
  unfair : w.dice → Unfit w (rest 6)
  -- 7 "mask of the wrong shape"
  wrong_shape : w.mask → Unfit w (rest 7)
  -- 10 "an opened number, t or vote not below M"
  not_below : w.numbers → Unfit w (rest 10)
  -- 11 "side byte above 1"
  above_one : w.sides → Unfit w (rest 11)
  -- 19 "a permutation that is none"
  no_permutation : w.permutations → Unfit w (rest 19)
  -- 21 "a commitment equal to one of an earlier ballot, at whichever places" (document 02, item 5)
  copied_ballot : w.copies → Unfit w (rest 21)

-- v is 0 if nothing is wrong, else the number of the first test that fails
pub record FirstRefusal (w : Wrong) (v : ℕ) : Type 0 where
  pub none : (v ≡ 0) ↔ ((t : InputTest) → Unfit w t → ⊥)
  pub first : (k : ℕ) → k ≢ 0
      → (v ≡ k) ↔ ((t : InputTest) × (k ≡ input_number t) × Unfit w t × ((u : InputTest) → input_rank u < input_rank t → Unfit w u → ⊥))

-- ---- in plain words

abbrev pub AnyUnfair : List ℕ → Type 0
AnyUnfair dice = (i : ℕ) × (i < 30) × Unfair (item dice i)

-- "the mask has exactly m ones and no bit at 2m or above"
abbrev pub Misshapen : ℕ → ℕ → Type 0
Misshapen m mask = (ones mask ≢ m) ⊎ (2 ^ (2 * m) ≤ mask)

abbrev pub AnyNotBelow : ℕ → List ℕ → Type 0
AnyNotBelow M l = (i : ℕ) × (i < length l) × (M ≤ item l i)

-- of the places below n: one is not, or is given twice
abbrev pub NoPermutation : ℕ → (ℕ → ℕ) → Type 0
NoPermutation n perm = (i : ℕ) × (i < n) × ((n ≤ perm i) ⊎ ((j : ℕ) × (j < i) × (perm j ≡ perm i)))

-- of n ballots two share a commitment, each in any of its slots
abbrev pub AnyCopied : (ℕ → ℕ → List ℕ) → ℕ → Type 0
AnyCopied posted n =
    (i j s t : ℕ) × (i < j) × (j < n) × (s < 6) × (t < 6) × (posted i s ≡ posted j t)

-- ---- the tablet

abbrev pub tablet_wrong : (M w x y u1 u2 u3 keys_long command_long receipt_long : ℕ) → Wrong
tablet_wrong M w x y u1 u2 u3 keys_long command_long receipt_long =
    record {
      limits = ModulusOutside M;
      lengths = (keys_long ≢ 192) ⊎ (command_long ≢ 197) ⊎ (receipt_long ≢ 32);
      ids = ⊥;
      dice = ⊥;
      mask = ⊥;
      numbers = (M ≤ w) ⊎ (M ≤ x) ⊎ (M ≤ y) ⊎ (M ≤ u1) ⊎ (M ≤ u2) ⊎ (M ≤ u3);
      sides = ⊥;
      permutations = ⊥;
      copies = ⊥;
    }

-- ---- the columns

abbrev pub row_wrong : ℕ → ℕ → List ℕ → List ℕ → List ℕ → ℕ → Wrong
row_wrong M n row offsets permutation out_long =
    record {
      limits = ModulusOutside M ⊎ BallotsOutside n;
      lengths = (length row ≢ n) ⊎ (length offsets ≢ n) ⊎ (length permutation ≢ n) ⊎ (out_long ≢ n);
      ids = ⊥;
      dice = ⊥;
      mask = ⊥;
      numbers = AnyNotBelow M row ⊎ AnyNotBelow M offsets;
      sides = ⊥;
      permutations = NoPermutation n (item permutation);
      copies = ⊥;
    }

abbrev pub pair_wrong : ℕ → ℕ → List ℕ → List ℕ → ℕ → Wrong
pair_wrong M n first second out_long =
    record {
      limits = ModulusOutside M ⊎ BallotsOutside n;
      lengths = (length first ≢ n) ⊎ (length second ≢ n) ⊎ (out_long ≢ n);
      ids = ⊥;
      dice = ⊥;
      mask = ⊥;
      numbers = AnyNotBelow M first ⊎ AnyNotBelow M second;
      sides = ⊥;
      permutations = ⊥;
      copies = ⊥;
    }

-- ---- the drawing of a mask

abbrev pub draw_wrong : Parameters → List ℕ → ℕ → Wrong
draw_wrong p dice one_long =
    record {
      limits = ModulusOutside p.modulus ⊎ BallotsOutside p.ballots ⊎ ListsOutside p.compared;
      lengths = (length dice ≢ 30) ⊎ (one_long ≢ part_one_length p);
      ids = ⊥;
      dice = AnyUnfair dice;
      mask = ⊥;
      numbers = ⊥;
      sides = ⊥;
      permutations = ⊥;
      copies = ⊥;
    }

-- ---- the servers' parts: "Inputs of every part, each part testing them all"; the lengths of its other slices, dice, mask and sides are a
-- part's own

module _ (s : Slices) where
  abbrev pub part_wrong : Type 0 → Type 0 → Type 0 → Type 0 → Wrong
  part_wrong lengths dice mask sides =
      let p = s.parameters in
      let n = p.ballots in
      let mn = p.compared * n in
      record {
        limits = ModulusOutside p.modulus ⊎ BallotsOutside n ⊎ ListsOutside p.compared;
        lengths =
            ((length s.ids ≢ n)
            ⊎ (length s.votes ≢ n)
            ⊎ (length s.numbers ≢ 5 * n + 18 * mn)
            ⊎ (length s.permutations ≢ 6 * mn)
            ⊎ (length s.keys ≢ 192 * n + 384 * mn))
            ⊎ lengths;
        ids = (j : ℕ) × (suc j < n) × (item s.ids (suc j) ≤ item s.ids j);
        dice = dice;
        mask = mask;
        numbers = AnyNotBelow p.modulus s.votes ⊎ AnyNotBelow p.modulus s.numbers;
        sides = sides;
        permutations = (l : ℕ) × (l < lists p) × ((c : ℕ) × (c < 3) × NoPermutation n ((inputs_of s).permutation l c));
        copies = AnyCopied (posted_board (inputs_of s)).ballot_commitment n;
      }

  abbrev pub part_one_wrong : ℕ → Wrong
  part_one_wrong out_long = part_wrong (out_long ≢ part_one_length s.parameters) ⊥ ⊥ ⊥

  abbrev pub part_two_wrong : List ℕ → ℕ → ℕ → Wrong
  part_two_wrong dice mask out_long =
      part_wrong ((length dice ≢ 30) ⊎ (out_long ≢ part_two_length s.parameters)) (AnyUnfair dice)
      (Misshapen s.parameters.compared mask) ⊥

  abbrev pub part_two_drawn_wrong : List ℕ → ℕ → ℕ → Wrong
  part_two_drawn_wrong dice one_long out_long =
      let p = s.parameters in
      part_wrong ((length dice ≢ 30) ⊎ (one_long ≢ part_one_length p) ⊎ (out_long ≢ part_two_length p)) (AnyUnfair dice) ⊥ ⊥

  abbrev pub AnyAboveOne : List ℕ → Type 0
  AnyAboveOne sides = (j : ℕ) × (j < s.parameters.ballots) × (1 < item sides j)

  abbrev pub part_three_wrong : List ℕ → ℕ → List ℕ → ℕ → Wrong
  part_three_wrong dice mask sides out_long =
      let p = s.parameters in
      part_wrong ((length dice ≢ 30) ⊎ (length sides ≢ p.ballots) ⊎ (out_long ≢ part_three_length p)) (AnyUnfair dice)
      (Misshapen p.compared mask) (AnyAboveOne sides)

  abbrev pub part_three_drawn_wrong : List ℕ → ℕ → ℕ → ℕ → ℕ → Wrong
  part_three_drawn_wrong dice mask one_long two_long out_long =
      let p = s.parameters in
      part_wrong
      ((length dice ≢ 30) ⊎ (one_long ≢ part_one_length p) ⊎ (two_long ≢ part_two_length p) ⊎ (out_long ≢ part_three_length p))
      (AnyUnfair dice) (Misshapen p.compared mask) ⊥

  -- ---- the three calls as one election; nothing is wrong with a mask, or with sides, that are drawn

  abbrev pub mask_wrong : Choice ℕ → Type 0
  mask_wrong (chosen mask) = Misshapen s.parameters.compared mask
  mask_wrong drawn = ⊥

  abbrev pub sides_other_length : Choice (List ℕ) → Type 0
  sides_other_length (chosen sides) = length sides ≢ s.parameters.ballots
  sides_other_length drawn = ⊥

  abbrev pub sides_wrong : Choice (List ℕ) → Type 0
  sides_wrong (chosen sides) = AnyAboveOne sides
  sides_wrong drawn = ⊥

  abbrev pub election_wrong : Choice ℕ → List ℕ → Choice (List ℕ) → List ℕ → ℕ → ℕ → ℕ → ℕ → Wrong
  election_wrong by_mask dice₁ by_sides dice₂ one_long two_long three_long joined_long =
      let p = s.parameters in
      part_wrong
      ((length dice₁ ≢ 30)
      ⊎ (length dice₂ ≢ 30)
      ⊎ sides_other_length by_sides
      ⊎ (one_long ≢ part_one_length p)
      ⊎ (two_long ≢ part_two_length p)
      ⊎ (three_long ≢ part_three_length p)
      ⊎ (joined_long ≢ record_length p))
      (AnyUnfair dice₁ ⊎ AnyUnfair dice₂) (mask_wrong by_mask) (sides_wrong by_sides)
