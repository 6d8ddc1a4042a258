-- Two families of false answers: of a poster who answers only where some ballots are thrown on the side that he guessed, and of one who answers
-- only under the mask that he guessed.
use mathlib.Core.Path.{◌≡◌, refl, sym, ap, ◌∙◌}
use mathlib.Core.Logic.{◌≢◌}
use mathlib.Core.Bool.{Bool, true}
use mathlib.Core.List.{List}
use Prim.Native.Nat.{ℕ, zero, suc, ◌+◌, ◌-◌, ◌*◌, ◌^◌, ◌≤◌, ◌<◌}
use native.Mathlib.Decide.{dec_lt}
use native.Mathlib.Omega.{arith}
use lib.Count.{ones}
use lib.ListN.{length}
use lib.Pow.{pow_mono}
use Rattle.laws.specs.Tests.{equal, below, choose, choose_clear, choose_set, equal_iff, below_iff, and_last, is_at_most}
use Rattle.laws.specs.Masks.{bit, bits_below}
use Rattle.laws.specs.Subsets.{many_below, below_first}
use Rattle.laws.specs.Distances.{distance}
use Rattle.laws.specs.Tables.{get_tabulate}
use Rattle.protocol.specs.declared.Parameters.{Parameters}
use Rattle.protocol.specs.Terms.{item}
use Rattle.protocol.specs.Layout.{lists}
use Rattle.protocol.specs.Record.{Board, Disclosure, parameters_of, part_one}
use Rattle.protocol.specs.Inputs.{Slices, given, inputs_of}
use Rattle.protocol.specs.Servers.{announced, ballot_opening, posted_board, posted_comparison, posted_disclosure}
use Rattle.protocol.specs.Stands.{Valid, Original}
use Rattle.protocol.specs.Throws.{Strategy, is_throw, throws, choices, accepts_false, Family, Fits}
use Rattle.protocol.proofs.Fitting.{Fits as Fitting}
use Rattle.protocol.proofs.Goodness.{Good}
use Rattle.protocol.proofs.Honesty.{honest_fits, honest_valid}
use Rattle.protocol.proofs.Committing.{vote_is}
use Rattle.protocol.proofs.Shares.{throws_same, throws_sides, throws_mask}
use Rattle.protocol.proofs.Posting.{posting, Keeps, board_parameters, posting_family, posting_fits, posting_false}
use Rattle.protocol.proofs.Served.{Fair, compares, discloses, thrown_chosen, honest_keeps, as_cast}

-- a family that passes so many throws with votes at a distance of at least k
pub record PassesFalsely (p : Parameters) (board : List ℕ) (answer : Strategy) (votes : ℕ → ℕ) (k count : ℕ) : Type 0 where
  pub parameters : parameters_of board ≡ p
  pub family : Family board answer
  pub fits : Fits board answer votes
  pub counted : throws p (accepts_false p answer votes k) ≡ count

either_long : (b : ℕ) (x y : List ℕ) → length x ≡ 32 → length y ≡ 32 → length (choose b x y) ≡ 32
unfolding choose
either_long zero x y hx hy = hx
either_long (suc b) x y hx hy = hy

one_zero : ◌≡◌ {A = ℕ} 1 0 → ⊥
one_zero e = omega arith

-- the same inputs with other votes
abbrev pub others : Slices → List ℕ → Slices
others s cast = given s.parameters s.ids cast s.numbers s.permutations s.keys

module _ (s : Slices) (g : Good (inputs_of s)) (original : Original (posted_board (inputs_of s))) (dice₁ : ℕ → List ℕ) (dice₂ : ℕ → ℕ → List ℕ)
    (fair₁ : (mask : ℕ) → Fair (dice₁ mask)) (fair₂ : (mask sides : ℕ) → Fair (dice₂ mask sides)) where
  abbrev n : ℕ
  n = s.parameters.ballots

  -- ---- the side of the last k ballots guessed: C 2^(n - k) throws

  -- he answers where they are all on side 0; nobody sees their other sides, where he may have committed other votes
  abbrev on_side : ℕ → ℕ → ℕ → Bool
  on_side k mask sides = below sides (2 ^ (n - k))

  -- a ballot shown on both sides is none of the last k
  shown_early : (k a b j : ℕ) → below a (2 ^ (n - k)) ≡ true → below b (2 ^ (n - k)) ≡ true → bit a j ≢ bit b j → j < n - k
  shown_early k a b j la lb ne = go (dec_lt j (n - k))
    where
      go : Dec (j < n - k) → j < n - k
      go (yes l) = l
      go (no l) =
          absurd (ne (bits_below (n - k) a ((below_iff a (2 ^ (n - k))).0 la) j (omega arith) ∙ sym (bits_below (n - k) b ((below_iff b (2 ^ (n - k))).0 lb) j (omega arith))))

  pub sides_guessed : (k : ℕ) → k ≤ n → (votes : ℕ → ℕ) → ((j : ℕ) → j < n - k → votes j ≡ item s.votes j)
      → k ≤ distance s.parameters.modulus (item s.votes) votes n
      → PassesFalsely s.parameters (part_one (posted_board (inputs_of s))) (posting (posted_board (inputs_of s)) (compares s dice₁ dice₂) (discloses s dice₁ dice₂) (on_side k))
      votes k (choices s.parameters * 2 ^ (n - k))
  unfolding inputs_of posted_board posted_disclosure
  sides_guessed k lk votes early far = record {
    parameters = board_parameters _ _ _ _ keeps;
    family = posting_family _ _ _ _ keeps;
    fits = posting_fits _ _ _ _ keeps (ballot_opening (inputs_of s)) votes (λ mask sides j c lj lc. refl) (λ j q lj lq. refl)
        (λ mask₁ sides₁ mask₂ sides₂ j w₁ w₂ lj ne. early j (shown_early k sides₁ sides₂ j w₁ w₂ ne) ∙ vote_is (inputs_of s) g j lj);
    counted = posting_false _ _ _ _ keeps votes k ∙ throws_same s.parameters _ (on_side k) (λ mask sides e. sym (and_last (on_side k mask sides) _ (is_at_most reach)))
        ∙ throws_sides s.parameters (λ sides. below sides (2 ^ (n - k))) ∙ ap (λ (x : ℕ). choices s.parameters * x) sides_are;
  }
    where
      keeps : Keeps (posted_board (inputs_of s)) (compares s dice₁ dice₂) (discloses s dice₁ dice₂) (on_side k)
      keeps = honest_keeps s g dice₁ dice₂ fair₁ fair₂ original (on_side k)

      reach : k ≤ distance s.parameters.modulus (item (announced (inputs_of s))) votes n
      reach = omega (arith, far, as_cast s g votes)

      sides_are : many_below (λ sides. below sides (2 ^ (n - k))) (2 ^ n) ≡ 2 ^ (n - k)
      sides_are =
          let low : 2 ^ (n - k) ≤ 2 ^ n = pow_mono {i = n - k} {j = n} (omega arith) in
          let e : 2 ^ n ≡ 2 ^ (n - k) + (2 ^ n - 2 ^ (n - k)) = omega arith in
          ap (many_below (λ sides. below sides (2 ^ (n - k)))) e ∙ below_first (2 ^ (n - k)) (2 ^ n - 2 ^ (n - k))

  -- ---- the mask guessed: 2^n throws

  module _ (cast : List ℕ) (g' : Good (inputs_of (others s cast))) (mask₀ : ℕ) (right : ones mask₀ ≡ s.parameters.compared)
      (low : mask₀ < 2 ^ lists s.parameters) where
    -- the lists that the mask opens hold the other votes
    pub forged : Board
    forged =
        record {
          parameters = s.parameters;
          id = item s.ids;
          ballot_commitment = (posted_board (inputs_of s)).ballot_commitment;
          entry_commitment = λ l i q. choose (bit mask₀ l) ((posted_board (inputs_of (others s cast))).entry_commitment l i q) ((posted_board (inputs_of s)).entry_commitment l i q);
        }

    pub announces : ℕ → ℕ → Disclosure
    announces mask sides =
        let d = discloses s dice₁ dice₂ mask sides in
        let d' = discloses (others s cast) dice₁ dice₂ mask sides in
        record {
          dice = d.dice;
          side = d.side;
          ballot_opening = d.ballot_opening;
          list_opening = d.list_opening;
          vote = d'.vote;
          full_opening = d'.full_opening;
        }

    abbrev on_mask : ℕ → ℕ → Bool
    on_mask mask sides = equal mask mask₀

    forged_fits : (mask sides : ℕ) → is_throw s.parameters mask sides ≡ true → Fitting forged (compares s dice₁ dice₂ mask) (announces mask sides)
    unfolding forged announces inputs_of posted_board posted_comparison posted_disclosure
    forged_fits mask sides e =
        let f = honest_fits (inputs_of s) g (thrown_chosen s g dice₁ dice₂ fair₁ fair₂ mask sides e) in
        let f' = honest_fits (inputs_of (others s cast)) g' (thrown_chosen (others s cast) g' dice₁ dice₂ fair₁ fair₂ mask sides e) in
        record {
          election = f.election;
          modulus = f.modulus;
          ballots = f.ballots;
          compared = f.compared;
          ids = f.ids;
          ballot_commitments = f.ballot_commitments;
          entry_commitments = λ l i q ll li lq. either_long (bit mask₀ l) _ _ (f'.entry_commitments l i q ll li lq) (f.entry_commitments l i q ll li lq);
          first_dice = f.first_dice;
          mask = f.mask;
          mask_ones = f.mask_ones;
          mask_below = f.mask_below;
          positions = f.positions;
          shifts = f.shifts;
          second_dice = f.second_dice;
          sides = f.sides;
          ballot_openings = f.ballot_openings;
          list_openings = f.list_openings;
          votes = f'.votes;
          full_openings = f'.full_openings;
        }

    forged_valid : (mask sides : ℕ) → is_throw s.parameters mask sides ≡ true → on_mask mask sides ≡ true → Valid forged (compares s dice₁ dice₂ mask) (announces mask sides)
    unfolding forged announces inputs_of posted_board posted_comparison posted_disclosure
    forged_valid mask sides e w =
        let v = honest_valid (inputs_of s) g (thrown_chosen s g dice₁ dice₂ fair₁ fair₂ mask sides e) in
        let v' = honest_valid (inputs_of (others s cast)) g' (thrown_chosen (others s cast) g' dice₁ dice₂ fair₁ fair₂ mask sides e) in
        let same : mask₀ ≡ mask = sym ((equal_iff mask mask₀).0 w) in
        record {
          modulus_low = v.modulus_low;
          modulus_high = v.modulus_high;
          ballots_low = v.ballots_low;
          ballots_high = v.ballots_high;
          compared_low = v.compared_low;
          compared_high = v.compared_high;
          ids_rise = v.ids_rise;
          first_fair = v.first_fair;
          mask_ones = v.mask_ones;
          mask_bits = v.mask_bits;
          positions = v.positions;
          shifts = v.shifts;
          second_fair = v.second_fair;
          sides = v.sides;
          ballot_numbers = v.ballot_numbers;
          ballot_opens = v.ballot_opens;
          list_numbers = v.list_numbers;
          list_opens = λ l j c ll set lj lc. v.list_opens l j c ll set lj lc ∙ sym (choose_set (bit mask₀ l) _ _ (λ z. one_zero (sym set ∙ ap (λ (m : ℕ). bit m l) (sym same) ∙ z)));
          first_halves_agree = v.first_halves_agree;
          second_halves_agree = v.second_halves_agree;
          votes_below = v'.votes_below;
          votes_rise = v'.votes_rise;
          full_numbers = v'.full_numbers;
          full_opens = λ l i q ll clear li lq. v'.full_opens l i q ll clear li lq ∙ sym (choose_clear (bit mask₀ l) _ _ (ap (λ (m : ℕ). bit m l) same ∙ clear));
          values = v'.values;
        }

    keeps : Keeps forged (compares s dice₁ dice₂) announces on_mask
    unfolding forged announces inputs_of posted_board posted_comparison posted_disclosure
    keeps = record {
      fits = forged_fits;
      valid = forged_valid;
      original = record { apart = original.apart };
      masks = λ mask. refl;
      sides = λ mask sides j lj. get_tabulate (bit sides) s.parameters.ballots j lj;
    }

    pub mask_guessed : (k : ℕ) → k ≤ distance s.parameters.modulus (item cast) (item s.votes) n
        → PassesFalsely s.parameters (part_one forged) (posting forged (compares s dice₁ dice₂) announces on_mask) (item s.votes) k (2 ^ n)
    unfolding forged announces inputs_of posted_board posted_disclosure
    mask_guessed k far = record {
      parameters = board_parameters _ _ _ _ keeps;
      family = posting_family _ _ _ _ keeps;
      fits = posting_fits _ _ _ _ keeps (ballot_opening (inputs_of s)) (item s.votes) (λ mask sides j c lj lc. refl) (λ j q lj lq. refl)
          (λ mask₁ sides₁ mask₂ sides₂ j w₁ w₂ lj ne. vote_is (inputs_of s) g j lj);
      counted = posting_false _ _ _ _ keeps (item s.votes) k ∙ throws_same s.parameters _ on_mask (λ mask sides e. sym (and_last (on_mask mask sides) _ (is_at_most reach)))
          ∙ throws_mask s.parameters mask₀ right low;
    }
      where
        reach : k ≤ distance s.parameters.modulus (item (announced (inputs_of (others s cast)))) (item s.votes) n
        reach = omega (arith, far, as_cast (others s cast) g' (item s.votes))
