-- What demand 3 supposes can be met: for all inputs that are not refused there are two masks and opposite sides that give three records
-- as its first half wants them; and there are inputs that are not refused.
use mathlib.Core.Path.{◌≡◌, refl, sym, ap, ◌∙◌}
use mathlib.Core.Logic.{◌≢◌}
use mathlib.Core.Bool.{true, false}
use mathlib.Core.List.{List, [], ◌∷◌}
use Prim.Native.Nat.{ℕ, zero, suc, ◌+◌, ◌-◌, ◌*◌, ◌^◌, ◌≤◌, ◌<◌}
use native.Mathlib.Nat.{mul-le-mul_left, add-zero}
use native.Mathlib.Omega.{arith}
use lib.Count.{ones, ones_cat, ones-ones}
use lib.ListN.{replicate, get_or-replicate}
use lib.Pow.{pow_mono, shl_lt, pow_pos}
use Rattle.laws.specs.Bytes.{Below}
use Rattle.laws.specs.Tests.{equal, differ, below, at_most, ◌and◌, ◌or◌, every}
use Rattle.laws.specs.Faults.{rule}
use Rattle.protocol.specs.declared.Form.TheVariants.{Unnumbered}
use Rattle.protocol.specs.Answers.{accepted}
use Rattle.protocol.specs.Terms.{election_number, parameters, in_limits, modulus_in_limits, ballots_in_limits, lists_in_limits, all_below}
use Rattle.protocol.specs.Columns.{is_permutation}
use Rattle.protocol.specs.Layout.{number_width, at_first_dice, at_second_dice, at_ballot_half, at_vote, at_end, part_three_length}
use Rattle.protocol.specs.Record.{Board, Comparison, Disclosure, encoding}
use Rattle.protocol.specs.Drawing.{challenge}
use Rattle.protocol.specs.Rules.{fair_die, fair_dice, right_shape, original as original_ballot}
use Rattle.protocol.specs.Judging.{judged}
use Rattle.protocol.specs.Inputs.{Slices, inputs_of, list_permutations}
use Rattle.protocol.specs.Stands.{Original}
use Rattle.protocol.specs.Refusals.{due_lengths, ids_rise, all_permutations, refusal, binary_sides, part_one_refusal, part_two_drawn_refusal, part_three_drawn_refusal, all_original}
use Rattle.protocol.specs.Servers.{posted_board, posted_comparison, posted_disclosure, first_part, mask_for}
use Rattle.protocol.specs.Results.{announced_votes}
use Rattle.protocol.specs.Election.{chosen, drawn, mask_by, second_refusal, third_refusal, mask_in_shape, sides_due, sides_binary, election_refusal, election_mask, election_record}
use Rattle.protocol.specs.Demand3.{Triple, Announces}
use Rattle.protocol.proofs.Fitting.{Fits}
use Rattle.protocol.proofs.Goodness.{FourBytes, Good}
use Rattle.protocol.proofs.Unrefused.{unrefused, good_inputs, shape_iff, binary_iff}
use Rattle.protocol.proofs.Drawing.{drawn_mask_lem}
use Rattle.protocol.proofs.Reading.{read_parameters, read_mask, read_side}
use Rattle.protocol.proofs.Standing.{read_before_first_dice, read_before_second_dice}
use Rattle.protocol.proofs.Committing.{written_announced}
use Rattle.protocol.proofs.Completeness.{Taken, written, board, comparison, disclosure, is_encoding, fits, written_accepted, Unrefusing, complete, complete_drawn}

-- ---- three records of one board, two comparisons and opposite sides

met : (b : Board) (k k₃ : Comparison) (d₁ d₂ d₃ : Disclosure) → Fits b k d₁ → Fits b k d₂ → Fits b k₃ d₃
    → judged false (encoding b k d₁) ≡ accepted → judged false (encoding b k d₂) ≡ accepted → judged false (encoding b k₃ d₃) ≡ accepted
    → ((j : ℕ) → j < b.parameters.ballots → d₁.side j ≢ d₂.side j) → k.mask ≢ k₃.mask
    → Triple (encoding b k d₁) (encoding b k d₂) (encoding b k₃ d₃)
met b k k₃ d₁ d₂ d₃ f₁ f₂ f₃ a₁ a₂ a₃ sides masks = record {
  accepted₁ = a₁;
  accepted₂ = a₂;
  accepted₃ = a₃;
  alike₂ = read_before_first_dice b k d₁ f₁ ∙ sym (read_before_first_dice b k d₂ f₂);
  alike₃ = read_before_first_dice b k d₁ f₁ ∙ sym (read_before_first_dice b k₃ d₃ f₃);
  pair = read_before_second_dice b k d₁ f₁ ∙ sym (read_before_second_dice b k d₂ f₂);
  sides = rw (read_parameters b k d₁ f₁, read_parameters b k d₂ f₂) (λ j lj. rw (read_side b k d₁ f₁ j lj, read_side b k d₂ f₂ j lj) (sides j lj));
  masks = rw (read_parameters b k d₁ f₁, read_parameters b k₃ d₃ f₃, read_mask b k d₁ f₁, read_mask b k₃ d₃ f₃) masks;
}

-- ---- two masks

-- m of 2m lists, and the m others
abbrev pub low_mask : ℕ → ℕ
low_mask m = 2 ^ m - 1

abbrev pub high_mask : ℕ → ℕ
high_mask m = (2 ^ m - 1) * 2 ^ m

-- the shape that a mask must have
pub record Shaped (m mask : ℕ) : Type 0 where
  pub mask_ones : ones mask ≡ m
  pub mask_below : mask < 2 ^ (2 * m)

pub low_shaped : (m : ℕ) → Shaped m (low_mask m)
low_shaped m = record {
  mask_ones = ones-ones m;
  mask_below = omega (arith, pow_mono {i = m} {j = 2 * m} (omega arith), pow_pos m);
}

pub high_shaped : (m : ℕ) → Shaped m (high_mask m)
unfolding ones
high_shaped m = record {
  mask_ones = ap ones (sym (add-zero (high_mask m))) ∙ ones_cat m (low_mask m) 0 (pow_pos m) ∙ omega (arith, ones-ones m);
  mask_below = let e : 2 * m ≡ m + m = omega arith in rw e (shl_lt m m (omega (arith, pow_pos m)));
}

pub masks_differ : (m : ℕ) → 1 ≤ m → low_mask m ≢ high_mask m
masks_differ m l e =
    let two : 2 ≤ 2 ^ m = pow_mono {i = 1} {j = m} l in
    omega (arith, mul-le-mul_left (low_mask m) two)

-- ---- inputs that are not refused

-- thirty times the character '1'
ones30 : List ℕ
ones30 = replicate 30 49

module _ (s : Slices) (out_long : ℕ) (fit : FourBytes s) (h : part_one_refusal s out_long ≡ 0) where
  pub good : Good (inputs_of s)
  unfolding part_one_refusal
  good = good_inputs s (unrefused s _ _ _ _ h) fit

  pub original : Original (posted_board (inputs_of s))
  unfolding part_one_refusal
  original = (unrefused s _ _ _ _ h).original

  same_sides : ℕ → List ℕ
  same_sides b = replicate s.parameters.ballots b

  taken : (mask b : ℕ) → Shaped s.parameters.compared mask → b ≤ 1 → Taken s ones30 mask ones30 (same_sides b)
  unfolding ones30 same_sides fair_dice fair_die every at_most ◌and◌
  taken mask b m l = record {
    first_long = refl;
    first_fair = refl;
    second_long = refl;
    second_fair = refl;
    shape = (shape_iff s.parameters.compared mask).1 (m.mask_ones, m.mask_below);
    binary = (binary_iff s (replicate s.parameters.ballots b)).1 (λ j lj. rw (get_or-replicate s.parameters.ballots j b 0 lj) l);
  }

  low : (b : ℕ) → b ≤ 1 → Taken s ones30 (low_mask s.parameters.compared) ones30 (same_sides b)
  low b l = taken (low_mask s.parameters.compared) b (low_shaped s.parameters.compared) l

  high : (b : ℕ) → b ≤ 1 → Taken s ones30 (high_mask s.parameters.compared) ones30 (same_sides b)
  high b l = taken (high_mask s.parameters.compared) b (high_shaped s.parameters.compared) l

  -- the record with a mask, on one side throughout
  abbrev pub sample : ℕ → ℕ → List ℕ
  sample mask b = written s (replicate 30 49) mask (replicate 30 49) (replicate s.parameters.ballots b)

  pub triple : Triple (sample (low_mask s.parameters.compared) 0) (sample (low_mask s.parameters.compared) 1) (sample (high_mask s.parameters.compared) 0)
  unfolding ones30 same_sides board comparison disclosure posted_board posted_comparison posted_disclosure part_one_refusal inputs_of
  triple =
      let M = low_mask s.parameters.compared in
      let N = high_mask s.parameters.compared in
      let t₁ = low 0 (omega arith) in
      let t₂ = low 1 (omega arith) in
      let t₃ = high 0 (omega arith) in
      let e₁ = is_encoding s good ones30 M ones30 (same_sides 0) t₁ in
      let e₂ = is_encoding s good ones30 M ones30 (same_sides 1) t₂ in
      let e₃ = is_encoding s good ones30 N ones30 (same_sides 0) t₃ in
      let a₁ = written_accepted s good ones30 M ones30 (same_sides 0) t₁ original in
      let a₂ = written_accepted s good ones30 M ones30 (same_sides 1) t₂ original in
      let a₃ = written_accepted s good ones30 N ones30 (same_sides 0) t₃ original in
      rw (e₁, e₂, e₃)
      (met _ _ _ _ _ _
      (fits s good ones30 M ones30 (same_sides 0) t₁) (fits s good ones30 M ones30 (same_sides 1) t₂) (fits s good ones30 N ones30 (same_sides 0) t₃)
      (rw e₁ at a₁) (rw e₂ at a₂) (rw e₃ at a₃)
      (λ j lj e. opposite (sym (get_or-replicate s.parameters.ballots j 0 0 lj) ∙ e ∙ get_or-replicate s.parameters.ballots j 1 0 lj))
      (masks_differ s.parameters.compared (unrefused s _ _ _ _ h).compared_low))
    where
      opposite : ◌≡◌ {A = ℕ} 0 1 → ⊥
      opposite e = omega arith

  -- the third announces what the ballots commit
  pub triple_announces : Announces (sample (low_mask s.parameters.compared) 0) (sample (low_mask s.parameters.compared) 1) (sample (high_mask s.parameters.compared) 0)
  unfolding ones30 same_sides
  triple_announces =
      let M = low_mask s.parameters.compared in
      written_announced s good ones30 M ones30 (same_sides 0) (low 0 (omega arith)) ones30 M ones30 (same_sides 1) (low 1 (omega arith))
      ones30 (high_mask s.parameters.compared) ones30 (same_sides 0) (high 0 (omega arith))

-- the smallest election: one ballot, two lists, M = 2, every number 1
unfoldable pub tiny : Slices
tiny =
    record {
      parameters = parameters Unnumbered 2 1 1;
      ids = 7 ∷ [];
      votes = 1 ∷ [];
      numbers = replicate 23 1;
      permutations = replicate 6 0;
      keys = replicate 576 5;
    }

pub tiny_unrefused : refusal tiny true true true true ≡ 0
unfolding tiny refusal in_limits modulus_in_limits ballots_in_limits lists_in_limits due_lengths ids_rise all_below all_permutations is_permutation inputs_of list_permutations rule equal differ below at_most ◌and◌ ◌or◌ every all_original original_ballot
tiny_unrefused = refl

-- ---- three records of it, all of whose hypotheses hold

abbrev all_ones : List ℕ
all_ones = replicate 30 49

tiny_ids : Below 4294967296 tiny.ids
unfolding tiny
tiny_ids zero l = omega arith
tiny_ids (suc i) l = absurd (omega arith)

pub tiny_fits : FourBytes tiny
unfolding tiny election_number
tiny_fits = record { ids = tiny_ids; election = omega arith }

-- part one of the smallest election has 597 bytes
pub tiny_part_one : part_one_refusal tiny 597 ≡ 0
unfolding tiny part_one_refusal at_first_dice number_width refusal in_limits modulus_in_limits ballots_in_limits lists_in_limits due_lengths ids_rise all_below all_permutations is_permutation inputs_of list_permutations rule equal differ below at_most ◌and◌ ◌or◌ every all_original original_ballot
tiny_part_one = refl

-- masks 1 and 2; sides 0, 1 and 0
pub tiny_triple : Triple (written tiny all_ones 1 all_ones (0 ∷ [])) (written tiny all_ones 1 all_ones (1 ∷ [])) (written tiny all_ones 2 all_ones (0 ∷ []))
unfolding tiny
tiny_triple = triple tiny 597 tiny_fits tiny_part_one

pub tiny_announces : Announces (written tiny all_ones 1 all_ones (0 ∷ [])) (written tiny all_ones 1 all_ones (1 ∷ [])) (written tiny all_ones 2 all_ones (0 ∷ []))
unfolding tiny
tiny_announces = triple_announces tiny 597 tiny_fits tiny_part_one

-- ---- and what completeness supposes holds of it: mask and sides drawn

-- part two has 45 bytes
tiny_part_two : part_two_drawn_refusal tiny all_ones 597 45 ≡ 0
unfolding tiny part_two_drawn_refusal at_first_dice number_width fair_dice fair_die refusal in_limits modulus_in_limits ballots_in_limits lists_in_limits due_lengths ids_rise all_below all_permutations is_permutation inputs_of list_permutations rule equal differ below at_most ◌and◌ ◌or◌ every all_original original_ballot
tiny_part_two = refl

-- part three has 483 bytes; of the mask only its shape counts
tiny_part_three : (mask : ℕ) → right_shape 1 mask ≡ true → part_three_drawn_refusal tiny all_ones mask 597 45 483 ≡ 0
unfolding tiny part_three_drawn_refusal at_first_dice number_width part_three_length fair_dice fair_die refusal in_limits modulus_in_limits ballots_in_limits lists_in_limits due_lengths ids_rise all_below all_permutations is_permutation inputs_of list_permutations rule equal differ below at_most ◌and◌ ◌or◌ every all_original original_ballot
tiny_part_three mask h = rw h

tiny_unrefusing : Unrefusing tiny drawn all_ones drawn all_ones
unfolding tiny second_refusal third_refusal election_mask mask_by mask_for
tiny_unrefusing = record {
  one = (597, tiny_part_one);
  two = (597, 45, tiny_part_two);
  three = (597, 45, 483, tiny_part_three _ (drawn_mask_lem 1 (challenge all_ones (first_part tiny))));
}

-- drawn judging accepts its record, which announces its one vote
pub tiny_accepted : judged true (election_record tiny drawn all_ones drawn all_ones) ≡ accepted
tiny_accepted = complete_drawn tiny all_ones all_ones tiny_fits tiny_unrefusing

pub tiny_announced : announced_votes (election_record tiny drawn all_ones drawn all_ones) ≡ 1 ∷ []
unfolding tiny
tiny_announced = (complete tiny drawn all_ones drawn all_ones tiny_fits tiny_unrefusing).1

-- the three calls as one, mask and sides given: the record has 1,125 bytes
pub tiny_election : election_refusal tiny (chosen 1) all_ones (chosen (0 ∷ [])) all_ones 597 45 483 1125 ≡ 0
unfolding tiny election_refusal mask_in_shape sides_due sides_binary binary_sides right_shape ones at_first_dice number_width at_second_dice at_ballot_half at_vote at_end part_three_length fair_dice fair_die refusal in_limits modulus_in_limits ballots_in_limits lists_in_limits due_lengths ids_rise all_below all_permutations is_permutation inputs_of list_permutations rule equal differ below at_most ◌and◌ ◌or◌ every all_original original_ballot
tiny_election = refl
