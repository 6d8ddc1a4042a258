-- Hypotheses can be met: what honest servers answer to all throws is such a family; every throw passes, and none with a false result.
use mathlib.Core.Path.{◌≡◌, refl, sym, ◌∙◌}
use mathlib.Core.Bool.{Bool, true}
use mathlib.Core.List.{List}
use Prim.Native.Nat.{ℕ, ◌≤◌}
use native.Mathlib.Omega.{arith}
use lib.ListN.{length}
use Rattle.laws.specs.Tests.{at_most, ◌and◌, and_last_stop, not_at_most}
use Rattle.laws.specs.Masks.{bit, bit_small}
use Rattle.laws.specs.Binomials.{binomial}
use Rattle.laws.specs.Distances.{distance}
use Rattle.laws.proofs.Distances.{distance_same, distance_zero}
use Rattle.laws.specs.Tables.{tabulate, get_tabulate}
use Rattle.protocol.specs.Terms.{item}
use Rattle.protocol.specs.Record.{Comparison, Disclosure, encoding}
use Rattle.protocol.specs.Rules.{fair_dice}
use Rattle.protocol.specs.Inputs.{Slices, inputs_of}
use Rattle.protocol.specs.Refusals.{part_one_refusal}
use Rattle.protocol.specs.Servers.{announced, ballot_opening, posted_board, posted_comparison, posted_disclosure, first_part, second_part, third_part}
use Rattle.protocol.specs.Election.{chosen, mask_by, sides_by, election_mask, election_two, election_sides, election_three, election_record}
use Rattle.protocol.specs.Stands.{Original}
use Rattle.protocol.specs.Throws.{Strategy, is_throw, throws, all_throws, choices, accepts, accepts_false, served, Family, Fits}
use Rattle.protocol.proofs.Goodness.{FourBytes, Good}
use Rattle.protocol.proofs.Honesty.{Chosen, honest_fits, honest_valid}
use Rattle.protocol.proofs.Unrefused as unrefusing
use Rattle.protocol.proofs.Unrefused.{shape_iff, binary_iff}
use Rattle.protocol.proofs.Committing.{vote_is, announced_often}
use Rattle.protocol.proofs.Meetable.{good, original, tiny, tiny_fits, tiny_part_one}
use Rattle.protocol.proofs.Sizes.{all_ones, all_fair}
use Rattle.protocol.proofs.Passing.{thrown_iff}
use Rattle.protocol.proofs.Shares.{throws_same, throws_none, all_throws_lem}
use Rattle.protocol.proofs.Posting.{posting, Keeps, posted_verdict, posting_family, posting_fits, posting_false}

-- dice that the servers take
pub record Fair (dice : List ℕ) : Type 0 where
  pub long : length dice ≡ 30
  pub fair : fair_dice dice ≡ true

-- each vote is announced as often as it was cast
pub as_cast : (s : Slices) → Good (inputs_of s) → (votes : ℕ → ℕ)
    → distance s.parameters.modulus (item (announced (inputs_of s))) votes s.parameters.ballots
    ≡ distance s.parameters.modulus (item s.votes) votes s.parameters.ballots
unfolding inputs_of
as_cast s g votes =
    distance_same s.parameters.modulus (item (announced (inputs_of s))) (item s.votes) votes s.parameters.ballots (announced_often (inputs_of s) g)

-- ---- what honest servers say

module _ (s : Slices) (dice₁ : ℕ → List ℕ) (dice₂ : ℕ → ℕ → List ℕ) where
  abbrev pub compares : ℕ → Comparison
  compares mask = posted_comparison (inputs_of s) (dice₁ mask) mask

  abbrev pub discloses : ℕ → ℕ → Disclosure
  discloses mask sides = posted_disclosure (inputs_of s) (dice₂ mask sides) (item (tabulate (bit sides) s.parameters.ballots))

  -- their answers are the records that say it
  is_posting : served s dice₁ dice₂ ≡ posting (posted_board (inputs_of s)) compares discloses (λ mask sides. true)
  unfolding served election_record election_two election_three election_sides election_mask mask_by sides_by first_part second_part third_part posting encoding posted_board posted_comparison
  is_posting = refl

module _ (s : Slices) (g : Good (inputs_of s)) (dice₁ : ℕ → List ℕ) (dice₂ : ℕ → ℕ → List ℕ)
    (fair₁ : (mask : ℕ) → Fair (dice₁ mask)) (fair₂ : (mask sides : ℕ) → Fair (dice₂ mask sides)) where
  pub thrown_chosen : (mask sides : ℕ) → is_throw s.parameters mask sides ≡ true
      → Chosen (inputs_of s) (dice₁ mask) (dice₂ mask sides) mask (item (tabulate (bit sides) s.parameters.ballots))
  thrown_chosen mask sides e =
      let ((o, low), some) = (thrown_iff s.parameters mask sides).0 e in
      let sides_are = tabulate (bit sides) s.parameters.ballots in
      unrefusing.chosen s (dice₁ mask) (dice₂ mask sides) mask sides_are (fair₁ mask).long (fair₁ mask).fair (fair₂ mask sides).long (fair₂ mask sides).fair
      ((shape_iff s.parameters.compared mask).1 (o, low))
      ((binary_iff s sides_are).1 (λ j lj. rw (get_tabulate (bit sides) s.parameters.ballots j lj) (omega (arith, bit_small sides j))))

  -- whichever throws they answer
  pub honest_keeps : Original (posted_board (inputs_of s)) → (willing : ℕ → ℕ → Bool)
      → Keeps (posted_board (inputs_of s)) (compares s dice₁ dice₂) (discloses s dice₁ dice₂) willing
  unfolding inputs_of posted_board posted_comparison posted_disclosure
  honest_keeps original willing = record {
    fits = λ mask sides e. honest_fits (inputs_of s) g (thrown_chosen mask sides e);
    valid = λ mask sides e w. honest_valid (inputs_of s) g (thrown_chosen mask sides e);
    original = original;
    masks = λ mask. refl;
    sides = λ mask sides j lj. get_tabulate (bit sides) s.parameters.ballots j lj;
  }

-- ---- to all throws

module _ (s : Slices) (out_long : ℕ) (fit : FourBytes s) (unrefused : part_one_refusal s out_long ≡ 0)
    (dice₁ : ℕ → List ℕ) (dice₂ : ℕ → ℕ → List ℕ) (fair₁ : (mask : ℕ) → Fair (dice₁ mask)) (fair₂ : (mask sides : ℕ) → Fair (dice₂ mask sides)) where
  g : Good (inputs_of s)
  g = good s out_long fit unrefused

  keeps : Keeps (posted_board (inputs_of s)) (compares s dice₁ dice₂) (discloses s dice₁ dice₂) (λ mask sides. true)
  keeps = honest_keeps s g dice₁ dice₂ fair₁ fair₂ (original s out_long fit unrefused) (λ mask sides. true)

  pub served_family : Family (first_part s) (served s dice₁ dice₂)
  unfolding first_part
  served_family = rw (is_posting s dice₁ dice₂) (posting_family _ _ _ _ keeps)

  -- the votes cast fit it
  pub served_fits : Fits (first_part s) (served s dice₁ dice₂) (item s.votes)
  unfolding first_part inputs_of posted_board posted_disclosure
  served_fits =
      rw (is_posting s dice₁ dice₂)
      (posting_fits _ _ _ _ keeps (ballot_opening (inputs_of s)) (item s.votes) (λ mask sides j c lj lc. refl) (λ j q lj lq. refl)
      (λ mask₁ sides₁ mask₂ sides₂ j w₁ w₂ lj ne. vote_is (inputs_of s) g j lj))

  -- every throw passes
  pub served_all : throws s.parameters (accepts (served s dice₁ dice₂)) ≡ all_throws s.parameters
  unfolding all_throws inputs_of posted_board
  served_all =
      rw (is_posting s dice₁ dice₂)
      (throws_same s.parameters (accepts (posting (posted_board (inputs_of s)) (compares s dice₁ dice₂) (discloses s dice₁ dice₂) (λ mask sides. true))) (λ mask sides. true)
      (posted_verdict _ _ _ _ keeps))

  -- and none falsely
  pub served_none : (k : ℕ) → 1 ≤ k → throws s.parameters (accepts_false s.parameters (served s dice₁ dice₂) (item s.votes) k) ≡ 0
  unfolding inputs_of posted_board posted_disclosure
  served_none k l =
      rw (is_posting s dice₁ dice₂)
      (posting_false _ _ _ _ keeps (item s.votes) k
      ∙ throws_none s.parameters (λ mask sides. true and at_most k (distance s.parameters.modulus (item (announced (inputs_of s))) (item s.votes) s.parameters.ballots))
      (λ mask sides e. sym (and_last_stop true _ (not_at_most (omega (arith, none))))))
    where
      none : distance s.parameters.modulus (item (announced (inputs_of s))) (item s.votes) s.parameters.ballots ≡ 0
      none = as_cast s g (item s.votes) ∙ (distance_zero s.parameters.modulus (item s.votes) (item s.votes) s.parameters.ballots g.votes_below g.votes_below).1 (λ x. refl)

-- ---- of the smallest election there are four throws

pub ones_fair : Fair all_ones
ones_fair = record { long = refl; fair = all_fair }

abbrev tiny_served : Strategy
tiny_served = served tiny (λ mask. all_ones) (λ mask sides. all_ones)

pub tiny_family : Family (first_part tiny) tiny_served
tiny_family = served_family tiny 597 tiny_fits tiny_part_one (λ mask. all_ones) (λ mask sides. all_ones) (λ mask. ones_fair) (λ mask sides. ones_fair)

pub tiny_all : throws tiny.parameters (accepts tiny_served) ≡ 4
unfolding tiny choices binomial
tiny_all =
    served_all tiny 597 tiny_fits tiny_part_one (λ mask. all_ones) (λ mask sides. all_ones) (λ mask. ones_fair) (λ mask sides. ones_fair)
    ∙ all_throws_lem tiny.parameters

pub tiny_none : throws tiny.parameters (accepts_false tiny.parameters tiny_served (item tiny.votes) 1) ≡ 0
tiny_none =
    served_none tiny 597 tiny_fits tiny_part_one (λ mask. all_ones) (λ mask sides. all_ones) (λ mask. ones_fair) (λ mask sides. ones_fair) 1 (omega arith)
