-- Answers from one board, with a comparison for each mask and a disclosure for each throw, given where whoever posts is willing: a family, and
-- what passes is what he is willing to post.
use mathlib.Core.Path.{◌≡◌, refl, sym, ap, ap₂, ◌∙◌}
use mathlib.Core.Logic.{◌≢◌}
use mathlib.Core.Bool.{Bool, true, false}
use mathlib.Core.List.{List, []}
use Prim.Native.Nat.{ℕ, ◌+◌, ◌*◌, ◌%◌, ◌<◌}
use lib.Pow.{pow_pos}
use Rattle.laws.specs.Tests.{pick, at_most, ◌and◌, and_stop}
use Rattle.laws.specs.Masks.{bit}
use Rattle.laws.specs.Sums.{times_same}
use Rattle.laws.specs.Distances.{distance}
use Rattle.laws.proofs.Distances.{distance_same}
use Rattle.protocol.specs.declared.Parameters.{Parameters}
use Rattle.protocol.specs.declared.Place.TheVariants.{InBallot}
use Rattle.protocol.specs.Terms.{opened, commitment}
use Rattle.protocol.specs.Record.{Board, Comparison, Disclosure, parameters_of, vote_of, part_one, encoding}
use Rattle.protocol.specs.Stands.{Valid, Original}
use Rattle.protocol.specs.Throws.{Strategy, is_throw, throws, accepts, accepts_false, Passed, Family, Fits}
use Rattle.protocol.proofs.Fitting.{Fits as Fitting}
use Rattle.protocol.proofs.Reading.{read_parameters, read_mask, read_side, read_vote}
use Rattle.protocol.proofs.Standing.{stands, read_before_first_dice, read_before_second_dice}
use Rattle.protocol.proofs.Committing.{commits_at}
use Rattle.protocol.proofs.Meetable.{low_mask, low_shaped}
use Rattle.protocol.proofs.Passing.{accepts_stands, parameters_of_lem, thrown_iff}
use Rattle.protocol.proofs.Shares.{throws_same}
use Rattle.protocol.proofs.Throws.{no_answer}

-- the record of a throw where he is willing, and none elsewhere
unfoldable pub posting : Board → (ℕ → Comparison) → (ℕ → ℕ → Disclosure) → (ℕ → ℕ → Bool) → Strategy
posting b k d willing mask sides = pick (willing mask sides) (encoding b (k mask) (d mask sides)) []

-- what is posted keeps the rules
pub record Keeps (b : Board) (k : ℕ → Comparison) (d : ℕ → ℕ → Disclosure) (willing : ℕ → ℕ → Bool) : Type 0 where
  pub fits : (mask sides : ℕ) → is_throw b.parameters mask sides ≡ true → Fitting b (k mask) (d mask sides)
  pub valid : (mask sides : ℕ) → is_throw b.parameters mask sides ≡ true → willing mask sides ≡ true → Valid b (k mask) (d mask sides)
  pub original : Original b
  pub masks : (mask : ℕ) → (k mask).mask ≡ mask
  pub sides : (mask sides j : ℕ) → j < b.parameters.ballots → (d mask sides).side j ≡ bit sides j

-- there is a throw: the lower lists, all on side 0
some_throw : (p : Parameters) → is_throw p (low_mask p.compared) 0 ≡ true
some_throw p =
    let h = low_shaped p.compared in
    (thrown_iff p (low_mask p.compared) 0).1 ((h.mask_ones, h.mask_below), pow_pos p.ballots)

module _ (b : Board) (k : ℕ → Comparison) (d : ℕ → ℕ → Disclosure) (willing : ℕ → ℕ → Bool) (h : Keeps b k d willing) where
  abbrev answer : Strategy
  answer = posting b k d willing

  is_posted : (mask sides : ℕ) → willing mask sides ≡ true → answer mask sides ≡ encoding b (k mask) (d mask sides)
  unfolding posting
  is_posted mask sides w = rw w refl

  -- ---- what passes

  pub posted_verdict : (mask sides : ℕ) → is_throw b.parameters mask sides ≡ true → accepts answer mask sides ≡ willing mask sides
  unfolding accepts posting
  posted_verdict mask sides t = go (willing mask sides) refl
    where
      go : (w : Bool) → willing mask sides ≡ w → accepts answer mask sides ≡ w
      go true w =
          (accepts_stands answer mask sides).1
          (rw (is_posted mask sides w) (stands b (k mask) (d mask sides) (h.fits mask sides t) (h.valid mask sides t w) h.original))
      go false w = rw w (no_answer mask sides)

  -- the bytes before the first dice tell the parameters
  pub board_parameters : parameters_of (part_one b) ≡ b.parameters
  board_parameters =
      let mask = low_mask b.parameters.compared in
      let f = h.fits mask 0 (some_throw b.parameters) in
      sym (parameters_of_lem (part_one b) (encoding b (k mask) (d mask 0)) (read_before_first_dice b (k mask) (d mask 0) f)) ∙ read_parameters b (k mask) (d mask 0) f

  module _ {mask sides : ℕ} (passed : Passed (part_one b) answer mask sides) where
    thrown : is_throw b.parameters mask sides ≡ true
    thrown = rw board_parameters at passed.thrown

    was_willing : willing mask sides ≡ true
    was_willing = sym (posted_verdict mask sides thrown) ∙ passed.accepted

    is_said : answer mask sides ≡ encoding b (k mask) (d mask sides)
    is_said = is_posted mask sides was_willing

    its_fit : Fitting b (k mask) (d mask sides)
    its_fit = h.fits mask sides thrown

  -- ---- a family

  pub posting_family : Family (part_one b) answer
  posting_family = record {
    boards = λ mask sides t. rw (is_said t) (read_before_first_dice b (k mask) (d mask sides) (its_fit t));
    masks = λ mask sides t. rw (board_parameters, is_said t) (read_mask b (k mask) (d mask sides) (its_fit t) ∙ h.masks mask);
    sides = λ mask sides j t lj.
        let l = rw board_parameters at lj in
        rw (board_parameters, is_said t) (read_side b (k mask) (d mask sides) (its_fit t) j l ∙ h.sides mask sides j l);
    links = λ mask one other t u.
        rw (is_said t, is_said u)
        (read_before_second_dice b (k mask) (d mask one) (its_fit t) ∙ sym (read_before_second_dice b (k mask) (d mask other) (its_fit u)));
  }

  -- votes that are the sums of six openings, where both sides are posted, fit it
  pub posting_fits : (openings : ℕ → ℕ → List ℕ) (votes : ℕ → ℕ)
      → ((mask sides j c : ℕ) → j < b.parameters.ballots → c < 3 → openings j (2 * c + (d mask sides).side j) ≡ (d mask sides).ballot_opening j c)
      → ((j q : ℕ) → j < b.parameters.ballots → q < 6 → commitment b.parameters (InBallot (b.id j) q) (openings j q) ≡ b.ballot_commitment j q)
      → ((mask₁ sides₁ mask₂ sides₂ j : ℕ) → willing mask₁ sides₁ ≡ true → willing mask₂ sides₂ ≡ true → j < b.parameters.ballots → bit sides₁ j ≢ bit sides₂ j
      → votes j ≡ (opened (openings j 0) + opened (openings j 1) + opened (openings j 2) + opened (openings j 3) + opened (openings j 4) + opened (openings j 5)) % b.parameters.modulus)
      → Fits (part_one b) answer votes
  posting_fits openings votes shown gives sums = record {
    commits = λ mask₁ sides₁ mask₂ sides₂ j t u lj ne.
        let l = rw board_parameters at lj in
        rw (is_said t, is_said u)
        (commits_at b (k mask₁) (k mask₂) (d mask₁ sides₁) (d mask₂ sides₂) (its_fit t) (its_fit u) openings (shown mask₁ sides₁) (shown mask₂ sides₂) gives
        j (votes j) l (sums mask₁ sides₁ mask₂ sides₂ j (was_willing t) (was_willing u) l ne));
  }

  -- ---- how many pass with votes at a distance

  its_distance : (votes : ℕ → ℕ) (mask sides : ℕ) → is_throw b.parameters mask sides ≡ true → willing mask sides ≡ true
      → distance b.parameters.modulus (vote_of b.parameters (answer mask sides)) votes b.parameters.ballots
      ≡ distance b.parameters.modulus (d mask sides).vote votes b.parameters.ballots
  its_distance votes mask sides t w =
      distance_same b.parameters.modulus (vote_of b.parameters (answer mask sides)) (d mask sides).vote votes b.parameters.ballots
      (λ x. times_same x b.parameters.ballots (λ i li. rw (is_posted mask sides w) (read_vote b (k mask) (d mask sides) (h.fits mask sides t) i li)))

  -- the throws that he is willing to answer with votes at a distance of at least c
  pub posting_false : (votes : ℕ → ℕ) (c : ℕ)
      → throws b.parameters (accepts_false b.parameters answer votes c)
      ≡ throws b.parameters (λ mask sides. willing mask sides and at_most c (distance b.parameters.modulus (d mask sides).vote votes b.parameters.ballots))
  unfolding accepts_false
  posting_false votes c =
      throws_same b.parameters (accepts_false b.parameters answer votes c)
      (λ mask sides. willing mask sides and at_most c (distance b.parameters.modulus (d mask sides).vote votes b.parameters.ballots)) at
    where
      at : (mask sides : ℕ) → is_throw b.parameters mask sides ≡ true
          → accepts_false b.parameters answer votes c mask sides
          ≡ (willing mask sides and at_most c (distance b.parameters.modulus (d mask sides).vote votes b.parameters.ballots))
      at mask sides t = go (willing mask sides) refl
        where
          far : Strategy → Bool
          far r = at_most c (distance b.parameters.modulus (vote_of b.parameters (r mask sides)) votes b.parameters.ballots)

          go : (w : Bool) → willing mask sides ≡ w
              → (accepts answer mask sides and far answer) ≡ (willing mask sides and at_most c (distance b.parameters.modulus (d mask sides).vote votes b.parameters.ballots))
          go true w = ap₂ (λ (x y : Bool). x and y) (posted_verdict mask sides t) (ap (at_most c) (its_distance votes mask sides t w))
          go false w = rw (posted_verdict mask sides t, w) (sym (and_stop false _ refl) ∙ and_stop false _ refl)
