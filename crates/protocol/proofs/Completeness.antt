-- Demand 3's second half over definitions: inputs that none of the three calls refuses give a record that plain judging accepts and
-- that announces the votes cast, smallest first; where mask and sides are drawn, drawn judging accepts it too.
use mathlib.Core.Path.{◌≡◌, refl, sym, ap, ap₂, ◌∙◌}
use mathlib.Core.Bool.{true, false}
use mathlib.Core.List.{List, ◌++◌}
use Prim.Native.Nat.{ℕ, ◌+◌, ◌<◌}
use lib.ListN.{length}
use Rattle.laws.specs.Faults.{rules}
use Rattle.laws.specs.Sorting.{sort, length_sort}
use Rattle.laws.specs.Tables.{tabulate, tabulate_of}
use Rattle.protocol.specs.Answers.{accepted}
use Rattle.protocol.specs.Terms.{item}
use Rattle.protocol.specs.Record.{parameters_of, ballot_commitment_of, Board, Comparison, Disclosure, board_of, comparison_of, disclosure_of, encoding}
use Rattle.protocol.specs.Drawing.{challenge, drawn_mask, drawn_side}
use Rattle.protocol.specs.Rules.{fair_dice, right_shape}
use Rattle.protocol.specs.Judging.{judged}
use Rattle.protocol.specs.Inputs.{Slices, inputs_of}
use Rattle.protocol.specs.Refusals.{binary_sides, part_one_refusal, part_two_refusal, part_two_drawn_refusal, part_three_refusal, part_three_drawn_refusal}
use Rattle.protocol.specs.Servers.{announced, posted_board, posted_comparison, posted_disclosure, first_part, second_part, mask_for, third_part, sides_for}
use Rattle.protocol.specs.Results.{announced_votes}
use Rattle.protocol.specs.Stands.{Laid, Valid, Original, Stands, Drawn}
use Rattle.protocol.specs.Election.{Choice, chosen, drawn, mask_by, sides_by, second_refusal, third_refusal, election_mask, election_two, election_sides, election_three, election_record, election_refusal}
use Rattle.protocol.proofs.Fitting.{Fits}
use Rattle.protocol.proofs.Goodness.{FourBytes, Good}
use Rattle.protocol.proofs.Honesty.{Chosen, honest_fits, honest_valid}
use Rattle.protocol.proofs.Unrefused as unrefusing
use Rattle.protocol.proofs.Unrefused.{unrefused, good_inputs}
use Rattle.protocol.proofs.Drawing.{drawn_mask_lem, drawn_sides_lem, item_drawn}
use Rattle.protocol.proofs.Whole.{election_iff}
use Rattle.protocol.proofs.Reading.{read_parameters, read_ballot_commitment, read_first_dice, read_mask, read_second_dice, read_side}
use Rattle.protocol.proofs.Standing.{stands_laid, stands_valid, stands, before_first_dice_lem, before_second_dice_lem, announces}
use Rattle.protocol.proofs.Accepting.{accepts_iff, accepts_drawn_iff}

-- dice, mask and sides that the three calls take
pub record Taken (s : Slices) (dice₁ : List ℕ) (mask : ℕ) (dice₂ sides : List ℕ) : Type 0 where
  pub first_long : length dice₁ ≡ 30
  pub first_fair : fair_dice dice₁ ≡ true
  pub second_long : length dice₂ ≡ 30
  pub second_fair : fair_dice dice₂ ≡ true
  pub shape : right_shape s.parameters.compared mask ≡ true
  pub binary : binary_sides s sides ≡ true

-- the record of these inputs
unfoldable pub written : Slices → List ℕ → ℕ → List ℕ → List ℕ → List ℕ
written s dice₁ mask dice₂ sides = first_part s ++ (second_part s dice₁ mask ++ third_part s dice₂ mask sides)

module _ (s : Slices) (g : Good (inputs_of s)) (dice₁ : List ℕ) (mask : ℕ) (dice₂ sides : List ℕ) (t : Taken s dice₁ mask dice₂ sides) where
  unfoldable pub board : Board
  board = posted_board (inputs_of s)

  unfoldable pub comparison : Comparison
  comparison = posted_comparison (inputs_of s) dice₁ mask

  unfoldable pub disclosure : Disclosure
  disclosure = posted_disclosure (inputs_of s) dice₂ (item sides)

  pub is_encoding : written s dice₁ mask dice₂ sides ≡ encoding board comparison disclosure
  unfolding written first_part second_part third_part encoding board comparison disclosure posted_board posted_comparison
  is_encoding = refl

  choice : Chosen (inputs_of s) dice₁ dice₂ mask (item sides)
  choice = unrefusing.chosen s dice₁ dice₂ mask sides t.first_long t.first_fair t.second_long t.second_fair t.shape t.binary

  pub fits : Fits board comparison disclosure
  unfolding board comparison disclosure
  fits = honest_fits (inputs_of s) g choice

  written_stands : Original (posted_board (inputs_of s)) → Stands (written s dice₁ mask dice₂ sides)
  unfolding board comparison disclosure
  written_stands o = rw is_encoding (stands board comparison disclosure fits (honest_valid (inputs_of s) g choice) o)

  -- all but rule 21, which rests on the commitments being different
  pub written_laid : Laid (parameters_of (written s dice₁ mask dice₂ sides)) (written s dice₁ mask dice₂ sides)
      × Valid (board_of (written s dice₁ mask dice₂ sides)) (comparison_of (written s dice₁ mask dice₂ sides)) (disclosure_of (written s dice₁ mask dice₂ sides))
  unfolding board comparison disclosure
  written_laid = rw is_encoding (stands_laid board comparison disclosure fits, stands_valid board comparison disclosure fits (honest_valid (inputs_of s) g choice))

  pub written_commitment : (j q : ℕ) → j < s.parameters.ballots → q < 6
      → ballot_commitment_of (parameters_of (written s dice₁ mask dice₂ sides)) (written s dice₁ mask dice₂ sides) j q ≡ (posted_board (inputs_of s)).ballot_commitment j q
  unfolding board posted_board inputs_of
  written_commitment j q lj lq = rw (is_encoding, read_parameters board comparison disclosure fits) (read_ballot_commitment board comparison disclosure fits j q lj lq)

  pub written_parameters : parameters_of (written s dice₁ mask dice₂ sides) ≡ s.parameters
  unfolding board posted_board inputs_of
  written_parameters = ap parameters_of is_encoding ∙ read_parameters board comparison disclosure fits

  pub written_accepted : Original (posted_board (inputs_of s)) → judged false (written s dice₁ mask dice₂ sides) ≡ accepted
  written_accepted o = (accepts_iff (written s dice₁ mask dice₂ sides)).1 (written_stands o)

  sorted_whole : (l : List ℕ) (n : ℕ) → length l ≡ n → tabulate (item l) n ≡ l
  sorted_whole l n e = sym (tabulate_of l (item l) n e (λ j h. refl))

  -- the votes announced are the votes cast, smallest first
  written_announces : length s.votes ≡ s.parameters.ballots → announced_votes (written s dice₁ mask dice₂ sides) ≡ sort s.votes
  unfolding disclosure board posted_board posted_disclosure announced inputs_of
  written_announces long =
      let cast : tabulate (item s.votes) s.parameters.ballots ≡ s.votes = sorted_whole s.votes s.parameters.ballots long in
      ap announced_votes is_encoding ∙ announces board comparison disclosure fits
      ∙ ap (λ (l : List ℕ). tabulate (item (sort l)) s.parameters.ballots) cast
      ∙ sorted_whole (sort s.votes) s.parameters.ballots (length_sort s.votes ∙ long)

  -- mask and sides drawn from these dice and the parts before
  are_drawn : mask ≡ mask_for s dice₁ (first_part s) → sides ≡ sides_for s dice₂ (first_part s) (second_part s dice₁ mask)
      → Drawn board.parameters (encoding board comparison disclosure)
  unfolding board comparison disclosure posted_board posted_comparison posted_disclosure first_part second_part mask_for sides_for inputs_of
  are_drawn em es = record {
    mask = read_mask board comparison disclosure fits ∙ em
        ∙ ap₂ (λ (d l : List ℕ). drawn_mask s.parameters.compared (challenge d l)) (sym (read_first_dice board comparison disclosure fits)) (sym (before_first_dice_lem board comparison disclosure fits));
    sides = λ j lj.
        read_side board comparison disclosure fits j lj ∙ ap (λ (l : List ℕ). item l j) es
        ∙ item_drawn s.parameters.ballots (challenge dice₂ (first_part s ++ second_part s dice₁ mask)) j lj
        ∙ ap₂ (λ (d l : List ℕ). drawn_side (challenge d l) j) (sym (read_second_dice board comparison disclosure fits)) (sym (before_second_dice_lem board comparison disclosure fits));
  }

  written_drawn : Original (posted_board (inputs_of s)) → mask ≡ mask_for s dice₁ (first_part s) → sides ≡ sides_for s dice₂ (first_part s) (second_part s dice₁ mask)
      → judged true (written s dice₁ mask dice₂ sides) ≡ accepted
  written_drawn o em es = (accepts_drawn_iff (written s dice₁ mask dice₂ sides)).1 (written_stands o, rw is_encoding (rw (read_parameters board comparison disclosure fits) (are_drawn em es)))

-- ---- the three calls

-- what none of the three calls refuses
pub record Unrefusing (s : Slices) (by_mask : Choice ℕ) (dice₁ : List ℕ) (by_sides : Choice (List ℕ)) (dice₂ : List ℕ) : Type 0 where
  pub one : (out_long : ℕ) × (part_one_refusal s out_long ≡ 0)
  pub two : (one_long out_long : ℕ) × (second_refusal s by_mask dice₁ one_long out_long ≡ 0)
  pub three : (one_long two_long out_long : ℕ) × (third_refusal s by_sides dice₂ (election_mask s by_mask dice₁) one_long two_long out_long ≡ 0)

-- an election that is not refused
pub none_refused : (s : Slices) (by_mask : Choice ℕ) (dice₁ : List ℕ) (by_sides : Choice (List ℕ)) (dice₂ : List ℕ) (one_long two_long three_long joined_long : ℕ)
    → election_refusal s by_mask dice₁ by_sides dice₂ one_long two_long three_long joined_long ≡ 0 → Unrefusing s by_mask dice₁ by_sides dice₂
none_refused s by_mask dice₁ by_sides dice₂ one_long two_long three_long joined_long e =
    let h = (election_iff s by_mask dice₁ by_sides dice₂ one_long two_long three_long joined_long).0 e in
    record { one = (_, h.one); two = (_, _, h.two); three = (_, _, _, h.three) }

module _ (s : Slices) where
  second_taken : (by_mask : Choice ℕ) (dice₁ : List ℕ) (one_long out_long : ℕ) → second_refusal s by_mask dice₁ one_long out_long ≡ 0
      → (length dice₁ ≡ 30) × ((fair_dice dice₁ ≡ true) × (right_shape s.parameters.compared (election_mask s by_mask dice₁) ≡ true))
  unfolding second_refusal part_two_refusal part_two_drawn_refusal election_mask mask_by mask_for
  second_taken (chosen mask) dice₁ one_long out_long h =
      let u = unrefused s _ _ _ _ h in
      let long = simp rules at u.lengths_due in
      (long.0, (u.fair_dice, u.right_shape))
  second_taken drawn dice₁ one_long out_long h =
      let u = unrefused s _ _ _ _ h in
      let long = simp rules at u.lengths_due in
      (long.0, (u.fair_dice, drawn_mask_lem s.parameters.compared (challenge dice₁ (first_part s))))

  third_taken : (by_sides : Choice (List ℕ)) (dice₂ : List ℕ) (mask one_long two_long out_long : ℕ) (one two : List ℕ)
      → third_refusal s by_sides dice₂ mask one_long two_long out_long ≡ 0
      → (length dice₂ ≡ 30) × ((fair_dice dice₂ ≡ true) × (binary_sides s (sides_by s by_sides dice₂ one two) ≡ true))
  unfolding third_refusal part_three_refusal part_three_drawn_refusal sides_by sides_for
  third_taken (chosen sides) dice₂ mask one_long two_long out_long one two h =
      let u = unrefused s _ _ _ _ h in
      let long = simp rules at u.lengths_due in
      (long.0, (u.fair_dice, u.binary_sides))
  third_taken drawn dice₂ mask one_long two_long out_long one two h =
      let u = unrefused s _ _ _ _ h in
      let long = simp rules at u.lengths_due in
      (long.0, (u.fair_dice, drawn_sides_lem s (challenge dice₂ (one ++ two))))

  module _ (by_mask : Choice ℕ) (dice₁ : List ℕ) (by_sides : Choice (List ℕ)) (dice₂ : List ℕ) (fit : FourBytes s) (h : Unrefusing s by_mask dice₁ by_sides dice₂) where
    taken : Taken s dice₁ (election_mask s by_mask dice₁) dice₂ (election_sides s by_mask dice₁ by_sides dice₂)
    unfolding election_sides
    taken =
        let a = second_taken by_mask dice₁ _ _ h.two.2 in
        let b = third_taken by_sides dice₂ _ _ _ _ (first_part s) (election_two s by_mask dice₁) h.three.3 in
        record { first_long = a.0; first_fair = a.1.0; second_long = b.0; second_fair = b.1.0; shape = a.1.1; binary = b.1.1 }

    votes_long : length s.votes ≡ s.parameters.ballots
    unfolding part_one_refusal
    votes_long = (unrefused s _ _ _ _ h.one.1).votes_long

    good : Good (inputs_of s)
    unfolding part_one_refusal
    good = good_inputs s (unrefused s _ _ _ _ h.one.1) fit

    original : Original (posted_board (inputs_of s))
    unfolding part_one_refusal
    original = (unrefused s _ _ _ _ h.one.1).original

    -- the record is accepted, and announces the votes cast, smallest first
    pub complete : (judged false (election_record s by_mask dice₁ by_sides dice₂) ≡ accepted) × (announced_votes (election_record s by_mask dice₁ by_sides dice₂) ≡ sort s.votes)
    unfolding election_record election_two election_three written
    complete = (
      written_accepted s good dice₁ (election_mask s by_mask dice₁) dice₂ (election_sides s by_mask dice₁ by_sides dice₂) taken original,
      written_announces s good dice₁ (election_mask s by_mask dice₁) dice₂ (election_sides s by_mask dice₁ by_sides dice₂) taken votes_long,
    )

    -- its parameters are those that the servers were given
    pub complete_parameters : parameters_of (election_record s by_mask dice₁ by_sides dice₂) ≡ s.parameters
    unfolding election_record election_two election_three written
    complete_parameters = written_parameters s good dice₁ (election_mask s by_mask dice₁) dice₂ (election_sides s by_mask dice₁ by_sides dice₂) taken

  -- where mask and sides are drawn, drawn judging accepts it too
  pub complete_drawn : (dice₁ dice₂ : List ℕ) → FourBytes s → Unrefusing s drawn dice₁ drawn dice₂ → judged true (election_record s drawn dice₁ drawn dice₂) ≡ accepted
  unfolding election_record election_two election_three election_sides election_mask mask_by sides_by written
  complete_drawn dice₁ dice₂ fit h =
      written_drawn s (good drawn dice₁ drawn dice₂ fit h) dice₁ (election_mask s drawn dice₁) dice₂ (election_sides s drawn dice₁ drawn dice₂) (taken drawn dice₁ drawn dice₂ fit h) (original drawn dice₁ drawn dice₂ fit h) refl refl
