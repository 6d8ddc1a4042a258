-- Demand 3's first half, in the words of document 01, "Drawing from dice": what is known of the three records, what the ballots
-- commit, and when a commitment is opened in two ways. The last two are said over any commitment scheme, and then of the record's own.
use Rattle.std.specs.Prelude.{◌≡◌, ◌≢◌, ◌⊎◌, false, List, ℕ, ◌+◌, ◌*◌, ◌%◌, ◌<◌, take}
use Rattle.laws.specs.Masks.{bit}
use Rattle.laws.specs.Sums.{times}
use Rattle.protocol.specs.Answers.{accepted}
use Rattle.protocol.specs.declared.Place.{Place}
use Rattle.protocol.specs.declared.Place.TheVariants.{InBallot, InEntry}
use Rattle.protocol.specs.Terms.{opened, Scheme, commitment}
use Rattle.protocol.specs.Layout.{lists, at_first_dice, at_second_dice}
use Rattle.protocol.specs.Record.{parameters_of, id_of, ballot_commitment_of, entry_commitment_of, mask_of, position_of, side_of, ballot_opening_of, list_opening_of, vote_of, full_opening_of}
use Rattle.protocol.specs.Judging.{judged}

abbrev pub before_first_dice : List ℕ → List ℕ
before_first_dice r = take (at_first_dice (parameters_of r)) r

abbrev pub before_second_dice : List ℕ → List ℕ
before_second_dice r = take (at_second_dice (parameters_of r)) r

-- three records: the pair r₁ and r₂, and the third
pub record Triple (r₁ r₂ r₃ : List ℕ) : Type 0 where
  pub accepted₁ : judged false r₁ ≡ accepted
  pub accepted₂ : judged false r₂ ≡ accepted
  pub accepted₃ : judged false r₃ ≡ accepted
  -- "have the same bytes before command 04"
  pub alike₂ : before_first_dice r₁ ≡ before_first_dice r₂
  pub alike₃ : before_first_dice r₁ ≡ before_first_dice r₃
  -- "Two of them, the pair, have the same bytes before command 06, and at every ballot their two side bytes differ"
  pub pair : before_second_dice r₁ ≡ before_second_dice r₂
  pub sides : (j : ℕ) → j < (parameters_of r₁).ballots → side_of (parameters_of r₁) r₁ j ≢ side_of (parameters_of r₂) r₂ j
  -- "The third has another mask than the pair."
  pub masks : mask_of (parameters_of r₁) r₁ ≢ mask_of (parameters_of r₃) r₃

-- "The vote committed in a ballot is the sum of its six numbers, once both sides are shown." "summed from its two commands 07, one in
-- each record of the pair": six openings, three shown in each, that give the ballot's six posted commitments
pub record CommitsOver (commit : Scheme) (r₁ r₂ : List ℕ) (j vote : ℕ) : Type 0 where
  pub openings : ℕ → List ℕ
  pub shown₁ : (c : ℕ) → c < 3 → openings (2 * c + side_of (parameters_of r₁) r₁ j) ≡ ballot_opening_of (parameters_of r₁) r₁ j c
  pub shown₂ : (c : ℕ) → c < 3 → openings (2 * c + side_of (parameters_of r₂) r₂ j) ≡ ballot_opening_of (parameters_of r₂) r₂ j c
  pub gives : (q : ℕ) → q < 6
      → commit (InBallot (id_of (parameters_of r₁) r₁ j) q) (openings q) ≡ ballot_commitment_of (parameters_of r₁) r₁ j q
  pub sum : vote
      ≡ (opened (openings 0) + opened (openings 1) + opened (openings 2) + opened (openings 3) + opened (openings 4) + opened (openings 5))
      % (parameters_of r₁).modulus

abbrev pub Commits : List ℕ → List ℕ → ℕ → ℕ → Type 0
Commits r₁ r₂ j vote = CommitsOver (commitment (parameters_of r₁)) r₁ r₂ j vote

-- a commitment that a record posts
pub data Posted (r : List ℕ) : Place → List ℕ → Type 0 where
  by_ballot : (j q : ℕ) → j < (parameters_of r).ballots → q < 6
      → Posted r (InBallot (id_of (parameters_of r) r j) q) (ballot_commitment_of (parameters_of r) r j q)
  by_entry : (l i q : ℕ) → l < lists (parameters_of r) → i < (parameters_of r).ballots → q < 6
      → Posted r (InEntry l i q) (entry_commitment_of (parameters_of r) r l i q)

-- an opening that a record shows: in a ballot's half, in that of a linked entry, or in a full opening
pub data Shown (r : List ℕ) : Place → List ℕ → Type 0 where
  in_ballot_half : (j c : ℕ) → j < (parameters_of r).ballots → c < 3
      → Shown r (InBallot (id_of (parameters_of r) r j) (2 * c + side_of (parameters_of r) r j)) (ballot_opening_of (parameters_of r) r j c)
  in_list_half : (l j c : ℕ) → l < lists (parameters_of r) → bit (mask_of (parameters_of r) r) l ≡ 1 → j < (parameters_of r).ballots → c < 3
      → Shown r (InEntry l (position_of (parameters_of r) r l j) (2 * c + side_of (parameters_of r) r j))
      (list_opening_of (parameters_of r) r l j c)
  in_full_opening : (l i q : ℕ) → l < lists (parameters_of r) → bit (mask_of (parameters_of r) r) l ≡ 0 → i < (parameters_of r).ballots → q < 6
      → Shown r (InEntry l i q) (full_opening_of (parameters_of r) r l i q)

-- "A commitment is opened in two ways where two different openings that give it are shown in the three records that the claim is
-- about.", by document 02, item 8: "two different openings of one posted place"
pub record OpenedTwiceOver (commit : Scheme) (r₁ r₂ r₃ : List ℕ) : Type 0 where
  pub place : Place
  pub posted : List ℕ
  pub one : List ℕ
  pub other : List ℕ
  pub is_posted : Posted r₁ place posted
  pub differ : one ≢ other
  pub one_gives : commit place one ≡ posted
  pub other_gives : commit place other ≡ posted
  pub one_shown : Shown r₁ place one ⊎ (Shown r₂ place one ⊎ Shown r₃ place one)
  pub other_shown : Shown r₁ place other ⊎ (Shown r₂ place other ⊎ Shown r₃ place other)

abbrev pub OpenedTwice : List ℕ → List ℕ → List ℕ → Type 0
OpenedTwice r₁ r₂ r₃ = OpenedTwiceOver (commitment (parameters_of r₁)) r₁ r₂ r₃

-- "the third announces each vote exactly as often as the ballots commit it": "each number below M is among them as often as among the n
-- committed votes", and so is every number
pub record AnnouncesOver (commit : Scheme) (r₁ r₂ r₃ : List ℕ) : Type 0 where
  pub committed : ℕ → ℕ
  pub commits : (j : ℕ) → j < (parameters_of r₁).ballots → CommitsOver commit r₁ r₂ j (committed j)
  pub as_often : (x : ℕ) → times x (vote_of (parameters_of r₃) r₃) (parameters_of r₁).ballots ≡ times x committed (parameters_of r₁).ballots

abbrev pub Announces : List ℕ → List ℕ → List ℕ → Type 0
Announces r₁ r₂ r₃ = AnnouncesOver (commitment (parameters_of r₁)) r₁ r₂ r₃
