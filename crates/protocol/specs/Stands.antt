-- When document 01 calls a record a proof, said without an order of tests: it has exactly its due length, every command and index
-- stands where it is due, and what it says keeps the rules.
use Rattle.std.specs.Prelude.{◌≡◌, ◌≢◌, List, ℕ, suc, ◌+◌, ◌*◌, ◌%◌, ◌≤◌, ◌<◌, length, take}
use Rattle.std.specs.Int.Count.{ones}
use Rattle.laws.specs.Bytes.{number}
use Rattle.laws.specs.Masks.{bit}
use Rattle.laws.specs.Permutations.{Perm}
use Rattle.laws.specs.Sums.{times}
use Rattle.protocol.specs.declared.Parameters.{Parameters}
use Rattle.protocol.specs.declared.Place.TheVariants.{InBallot, InEntry}
use Rattle.protocol.specs.Terms.{item, most_ballots, opened, Scheme, commitment}
use Rattle.protocol.specs.Layout.{first_code, number_width, lists, at_ballot, at_entry, at_first_dice, at_second_dice, at_ballot_half, at_vote, at_end}
use Rattle.protocol.specs.Record.{parameters_of, first_dice_of, mask_of, link_place, position_of, second_dice_of, side_of, list_half_place, full_place, Board, Comparison, Disclosure, board_of, comparison_of, disclosure_of}
use Rattle.protocol.specs.Drawing.{challenge, drawn_mask, drawn_side}

-- rules 1, 2, 4 and 17: "The whole is 75 + 316n + 734mn bytes", or by document 02, item 4, "4 bytes longer", with each command byte and
-- each list, ballot, position and index operand where it is due
pub record Laid (p : Parameters) (r : List ℕ) : Type 0 where
  pub long : length r ≡ 75 + number_width p.form + 316 * p.ballots + 734 * (p.compared * p.ballots)
  pub first : item r 0 ≡ first_code p.form
  pub ballots : (j : ℕ) → j < p.ballots → item r (at_ballot p j) ≡ 0x02
  pub entries : (l i : ℕ) → l < lists p → i < p.ballots
      → (item r (at_entry p l i) ≡ 0x03) × ((number r (at_entry p l i + 1) 1 ≡ l) × (number r (at_entry p l i + 2) 2 ≡ i))
  pub first_dice : item r (at_first_dice p) ≡ 0x04
  pub links : (l j : ℕ) → l < lists p → bit (mask_of p r) l ≡ 1 → j < p.ballots
      → (item r (link_place p r l j) ≡ 0x05) × ((number r (link_place p r l j + 1) 1 ≡ l) × (number r (link_place p r l j + 2) 2 ≡ j))
  pub second_dice : item r (at_second_dice p) ≡ 0x06
  pub ballot_halves : (j : ℕ) → j < p.ballots → (item r (at_ballot_half p j) ≡ 0x07) × (number r (at_ballot_half p j + 1) 2 ≡ j)
  pub list_halves : (l j : ℕ) → l < lists p → bit (mask_of p r) l ≡ 1 → j < p.ballots
      → (item r (list_half_place p r l j) ≡ 0x08)
      × ((number r (list_half_place p r l j + 1) 1 ≡ l) × (number r (list_half_place p r l j + 2) 2 ≡ position_of p r l j))
  pub votes : (i : ℕ) → i < p.ballots → (item r (at_vote p i) ≡ 0x09) × (number r (at_vote p i + 1) 2 ≡ i)
  pub full_openings : (l i : ℕ) → l < lists p → bit (mask_of p r) l ≡ 0 → i < p.ballots
      → (item r (full_place p r l i) ≡ 0x0A) × ((number r (full_place p r l i + 1) 1 ≡ l) × (number r (full_place p r l i + 2) 2 ≡ i))
  pub end : item r (at_end p) ≡ 0x0B

-- rules 3, 5 to 7, 9 to 11 and 13 to 16, over any commitment scheme
pub record ValidOver (commit : Scheme) (b : Board) (k : Comparison) (d : Disclosure) : Type 0 where
  -- "M is the modulus, 2 to 4,294,967,295. n is the number of ballots", 1 to 4,096 (document 02, item 3). "There are 2m lists, m from 1 to
  -- 12."
  pub modulus_low : 2 ≤ b.parameters.modulus
  pub modulus_high : b.parameters.modulus ≤ 4294967295
  pub ballots_low : 1 ≤ b.parameters.ballots
  pub ballots_high : b.parameters.ballots ≤ most_ballots
  pub compared_low : 1 ≤ b.parameters.compared
  pub compared_high : b.parameters.compared ≤ 12
  -- "Ids rise strictly."
  pub ids_rise : (j : ℕ) → suc j < b.parameters.ballots → b.id j < b.id (suc j)
  -- "30 characters '1' to '6'"
  pub first_fair : (i : ℕ) → i < 30 → (49 ≤ item k.dice i) × (item k.dice i ≤ 54)
  -- "the mask has exactly m ones and no bit at 2m or above"
  pub mask_ones : ones k.mask ≡ b.parameters.compared
  pub mask_bits : (i : ℕ) → lists b.parameters ≤ i → bit k.mask i ≡ 0
  -- "One list's positions all differ.", and are below n: rule 9
  pub positions : (l : ℕ) → l < lists b.parameters → bit k.mask l ≡ 1 → Perm b.parameters.ballots (k.position l)
  -- t below M
  pub shifts : (l j : ℕ) → l < lists b.parameters → bit k.mask l ≡ 1 → j < b.parameters.ballots
      → k.shift l j < b.parameters.modulus
  -- "30 characters", fair as the first
  pub second_fair : (i : ℕ) → i < 30 → (49 ≤ item d.dice i) × (item d.dice i ≤ 54)
  -- "Side 0 opens u1, u2, u3 and side 1 opens v1, v2, v3."
  pub sides : (j : ℕ) → j < b.parameters.ballots → d.side j ≤ 1
  -- every opened number below M, every opening giving its commitment
  pub ballot_numbers : (j c : ℕ) → j < b.parameters.ballots → c < 3 → opened (d.ballot_opening j c) < b.parameters.modulus
  pub ballot_opens : (j c : ℕ) → j < b.parameters.ballots → c < 3
      → commit (InBallot (b.id j) (2 * c + d.side j)) (d.ballot_opening j c)
      ≡ b.ballot_commitment j (2 * c + d.side j)
  -- "three openings of the same side"
  pub list_numbers : (l j c : ℕ) → l < lists b.parameters → bit k.mask l ≡ 1 → j < b.parameters.ballots → c < 3
      → opened (d.list_opening l j c) < b.parameters.modulus
  pub list_opens : (l j c : ℕ) → l < lists b.parameters → bit k.mask l ≡ 1 → j < b.parameters.ballots → c < 3
      → commit (InEntry l (k.position l j) (2 * c + d.side j)) (d.list_opening l j c)
      ≡ b.entry_commitment l (k.position l j) (2 * c + d.side j)
  -- "on side 0 the list's three plus t"
  pub first_halves_agree : (l j : ℕ) → l < lists b.parameters → bit k.mask l ≡ 1 → j < b.parameters.ballots → d.side j ≡ 0
      → (opened (d.ballot_opening j 0) + opened (d.ballot_opening j 1) + opened (d.ballot_opening j 2)) % b.parameters.modulus
      ≡ (opened (d.list_opening l j 0) + opened (d.list_opening l j 1) + opened (d.list_opening l j 2) + k.shift l j)
      % b.parameters.modulus
  -- "on side 1 the list's three minus t": the ballot's plus t are the list's
  pub second_halves_agree : (l j : ℕ) → l < lists b.parameters → bit k.mask l ≡ 1 → j < b.parameters.ballots → d.side j ≡ 1
      → (opened (d.ballot_opening j 0) + opened (d.ballot_opening j 1) + opened (d.ballot_opening j 2) + k.shift l j)
      % b.parameters.modulus
      ≡ (opened (d.list_opening l j 0) + opened (d.list_opening l j 1) + opened (d.list_opening l j 2)) % b.parameters.modulus
  -- votes below M
  pub votes_below : (i : ℕ) → i < b.parameters.ballots → d.vote i < b.parameters.modulus
  -- "No vote is smaller than the one before."
  pub votes_rise : (i : ℕ) → suc i < b.parameters.ballots → d.vote i ≤ d.vote (suc i)
  -- all six openings of every place of an opened list
  pub full_numbers : (l i q : ℕ) → l < lists b.parameters → bit k.mask l ≡ 0 → i < b.parameters.ballots → q < 6
      → opened (d.full_opening l i q) < b.parameters.modulus
  pub full_opens : (l i q : ℕ) → l < lists b.parameters → bit k.mask l ≡ 0 → i < b.parameters.ballots → q < 6
      → commit (InEntry l i q) (d.full_opening l i q) ≡ b.entry_commitment l i q
  -- "An opened list's n values (six numbers summed) are a permutation of the announced votes": each number is among them as often
  pub values : (l : ℕ) → l < lists b.parameters → bit k.mask l ≡ 0 → (x : ℕ)
      → times x
      (λ i.
      (opened (d.full_opening l i 0) + opened (d.full_opening l i 1) + opened (d.full_opening l i 2) + opened (d.full_opening l i 3)
      + opened (d.full_opening l i 4)
      + opened (d.full_opening l i 5))
      % b.parameters.modulus)
      b.parameters.ballots
      ≡ times x d.vote b.parameters.ballots

-- .. with the commitments of a board's own parameters
abbrev pub Valid : Board → Comparison → Disclosure → Type 0
Valid b k d = ValidOver (commitment b.parameters) b k d

-- rule 21, by document 02, item 5: no ballot has "a commitment equal to one of an earlier ballot, at whichever places"
pub record Original (b : Board) : Type 0 where
  pub apart : (i j s t : ℕ) → i < j → j < b.parameters.ballots → s < 6 → t < 6 → b.ballot_commitment i s ≢ b.ballot_commitment j t

-- a record that is a proof, over any commitment scheme
pub record StandsOver (commit : Scheme) (r : List ℕ) : Type 0 where
  pub laid : Laid (parameters_of r) r
  pub valid : ValidOver commit (board_of r) (comparison_of r) (disclosure_of r)
  pub original : Original (board_of r)

-- .. with the commitments of its own parameters
abbrev pub Stands : List ℕ → Type 0
Stands r = StandsOver (commitment (parameters_of r)) r

-- rules 8 and 12: "Drawn judging also demands that they be the drawn ones."
pub record Drawn (p : Parameters) (r : List ℕ) : Type 0 where
  pub mask : mask_of p r ≡ drawn_mask p.compared (challenge (first_dice_of p r) (take (at_first_dice p) r))
  pub sides : (j : ℕ) → j < p.ballots → side_of p r j ≡ drawn_side (challenge (second_dice_of p r) (take (at_second_dice p) r)) j
