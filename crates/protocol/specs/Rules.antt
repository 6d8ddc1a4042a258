-- Document 01, "What is refused": the rules of each command, in rising order. A rule reads its operands, and those of earlier
-- commands, from the record. `rule k test rest` is k where the test fails, else what the rest says; `kept` is no rule broken (`laws`
-- `Faults`).
-- `every t k`: the test t holds of 0 to k - 1 (`laws` `Tests`). `p.modulus`, `p.ballots` and `p.compared` are M, n and m.
use Rattle.std.specs.Prelude.{Bool, false, List, ℕ, zero, suc, ◌+◌, ◌-◌, ◌*◌, ◌^◌, length, take}
use Rattle.std.specs.Int.Count.{ones}
use Rattle.laws.specs.Tests.{equal, differ, below, at_most, ◌and◌, ◌or◌, ◌implies◌, every, same, unlike}
use Rattle.laws.specs.Faults.{rule, kept}
use Rattle.laws.specs.Bytes.{number}
use Rattle.laws.specs.Modular.{plus, minus}
use Rattle.laws.specs.Permuting.{permutes}
use Rattle.protocol.specs.declared.Parameters.{Parameters}
use Rattle.protocol.specs.declared.Due.{Due}
use Rattle.protocol.specs.declared.Due.TheVariants.{First, Ballot, Entry, FirstDice, Link, SecondDice, BallotHalf, ListHalf, Vote, FullOpening, End}
use Rattle.protocol.specs.declared.Place.{Place}
use Rattle.protocol.specs.declared.Place.TheVariants.{InBallot, InEntry}
use Rattle.protocol.specs.Terms.{item, most_ballots, in_limits_up_to, opened, commitment, sum_of_three, sum_of_six}
use Rattle.protocol.specs.Layout.{code, width, at_ballot, at_entry, at_first_dice, at_second_dice, at_ballot_half, at_vote, at_end}
use Rattle.protocol.specs.Record.{parameters_of, id_of, ballot_commitment_of, entry_commitment_of, first_dice_of, mask_of, link_place, position_of, shift_of, second_dice_of, side_of, ballot_opening_of, list_half_place, list_opening_of, vote_of, full_place, full_opening_of}
use Rattle.protocol.specs.Drawing.{challenge, drawn_mask, drawn_side}

-- ---- tests of numbers, for judge and writers alike

-- rule 6: "a dice byte outside '1' to '6'", characters 49 to 54
unfoldable pub fair_die : ℕ → Bool
fair_die c = at_most 49 c and at_most c 54

unfoldable pub fair_dice : List ℕ → Bool
fair_dice dice = every (λ i. fair_die (item dice i)) 30

-- rule 7: "the mask has exactly m ones and no bit at 2m or above"
unfoldable pub right_shape : ℕ → ℕ → Bool
right_shape m mask = equal (ones mask) m and below mask (2 ^ (2 * m))

-- rule 10, "an opened number .. not below M": the numbers in k openings
unfoldable pub numbers_below : ℕ → (ℕ → List ℕ) → ℕ → Bool
numbers_below M openings k = every (λ i. below (opened (openings i)) M) k

-- rule 13, "opening does not give its commitment": that it does
unfoldable pub gives : Parameters → Place → List ℕ → List ℕ → Bool
gives p place o posted = same (commitment p place o) posted

-- rule 21, by document 02, item 5: "a ballot with a commitment equal to one of an earlier ballot, at whichever places, is refused. Equal
-- ones inside one ballot stand." `posted i s` is the commitment in slot s of ballot i.
unfoldable pub apart : (ℕ → ℕ → List ℕ) → ℕ → ℕ → Bool
apart posted i j = every (λ s. every (λ t. unlike (posted i s) (posted j t)) 6) 6

-- ballot j has no commitment of an earlier ballot
unfoldable pub original : (ℕ → ℕ → List ℕ) → ℕ → Bool
original posted j = every (λ i. apart posted i j) j

-- rule 14, "the two halves disagree": "the ballot's three opened numbers must equal in sum: on side 0 the list's three plus t, on side 1
-- the list's three minus t". `ballot` and `list` are the sums of the three. The sign changes because t is what the ballot's first halves
-- have more than the list's (`link_shift` in `Servers`): its second halves have that much less, and over both sides t cancels (`both_sides`
-- in `laws` `Modular`). No side above 1 comes here, by rule 11.
unfoldable pub agrees : ℕ → ℕ → ℕ → ℕ → ℕ → Bool
agrees M zero ballot list t = equal ballot (plus M list t)
agrees M (suc side) ballot list t = equal ballot (minus M list t)

-- ---- the rules of a whole command; `drawn` is the switch between plain and drawn judging, `copies` that between the judge, who asks for
-- rule 21, and others

-- 01 and 0C: 3, where n may be up to `most`
abbrev pub first_rules_up_to : ℕ → List ℕ → ℕ
first_rules_up_to most r = rule 3 (in_limits_up_to most (parameters_of r)) kept

unfoldable pub first_rules : List ℕ → ℕ
first_rules r = first_rules_up_to most_ballots r

module _ (p : Parameters) (r : List ℕ) where
  -- 02: 5, "an id not above the one before"; and "21, last in command 02 (receipt check and lookup omit it)"
  unfoldable pub ballot_rules : Bool → ℕ → ℕ
  ballot_rules copies j =
      rule 5 (equal j 0 or below (id_of p r (j - 1)) (id_of p r j)) (rule 21 (copies implies original (ballot_commitment_of p r) j) kept)

  -- 03: 4, "a list, ballot, position or index operand other than the due one"
  unfoldable pub entry_rules : ℕ → ℕ → ℕ
  entry_rules l i = rule 4 (equal (number r (at_entry p l i + 1) 1) l) (rule 4 (equal (number r (at_entry p l i + 2) 2) i) kept)

  -- 04: 6, 7, and 8, "mask not the drawn one", only as drawn
  unfoldable pub first_dice_rules : Bool → ℕ
  first_dice_rules drawn =
      rule 6 (fair_dice (first_dice_of p r))
      (rule 7 (right_shape p.compared (mask_of p r))
      (rule 8 (drawn implies equal (mask_of p r) (drawn_mask p.compared (challenge (first_dice_of p r) (take (at_first_dice p) r)))) kept))

  -- 05: 4 "(in a link, list and ballot only)"; 9, "link position n or above, or taken"; 10
  unfoldable pub link_rules : ℕ → ℕ → ℕ
  link_rules l j =
      rule 4 (equal (number r (link_place p r l j + 1) 1) l)
      (rule 4 (equal (number r (link_place p r l j + 2) 2) j)
      (rule 9 (below (position_of p r l j) p.ballots)
      (rule 9 (every (λ i. differ (position_of p r l i) (position_of p r l j)) j) (rule 10 (below (shift_of p r l j) p.modulus) kept))))

  -- 06: 6
  unfoldable pub second_dice_rules : ℕ
  second_dice_rules = rule 6 (fair_dice (second_dice_of p r)) kept

  -- 07: 4; 10; 11, "side byte above 1"; 12, "side not the drawn one", only as drawn; 13. "Side 0 opens u1, u2, u3 and side 1 opens
  -- v1, v2, v3": slots 0, 2, 4 and 1, 3, 5
  unfoldable pub ballot_half_rules : Bool → ℕ → ℕ
  ballot_half_rules drawn j =
      let side = side_of p r j in
      rule 4 (equal (number r (at_ballot_half p j + 1) 2) j)
      (rule 10 (numbers_below p.modulus (ballot_opening_of p r j) 3)
      (rule 11 (at_most side 1)
      (rule 12 (drawn implies equal side (drawn_side (challenge (second_dice_of p r) (take (at_second_dice p) r)) j))
      (rule 13
      (every (λ k. gives p (InBallot (id_of p r j) (2 * k + side)) (ballot_opening_of p r j k) (ballot_commitment_of p r j (2 * k + side))) 3)
      kept))))

  -- 08: 4, the position being "the linked one"; 10; 13, "of the same side"; 14
  unfoldable pub list_half_rules : ℕ → ℕ → ℕ
  list_half_rules l j =
      let side = side_of p r j in
      let i = position_of p r l j in
      rule 4 (equal (number r (list_half_place p r l j + 1) 1) l)
      (rule 4 (equal (number r (list_half_place p r l j + 2) 2) i)
      (rule 10 (numbers_below p.modulus (list_opening_of p r l j) 3)
      (rule 13
      (every (λ k. gives p (InEntry l i (2 * k + side)) (list_opening_of p r l j k) (entry_commitment_of p r l i (2 * k + side))) 3)
      (rule 14
      (agrees p.modulus side (sum_of_three p.modulus (ballot_opening_of p r j)) (sum_of_three p.modulus (list_opening_of p r l j))
      (shift_of p r l j))
      kept))))

  -- 09: 4; 10; 15, "No vote is smaller than the one before"
  unfoldable pub vote_rules : ℕ → ℕ
  vote_rules i =
      rule 4 (equal (number r (at_vote p i + 1) 2) i)
      (rule 10 (below (vote_of p r i) p.modulus) (rule 15 (equal i 0 or at_most (vote_of p r (i - 1)) (vote_of p r i)) kept))

  -- 0A: 4; 10; 13; and 16, "An opened list's n values (six numbers summed) are a permutation of the announced votes", "found at its
  -- last 0A"
  unfoldable pub full_rules : ℕ → ℕ → ℕ
  full_rules l i =
      rule 4 (equal (number r (full_place p r l i + 1) 1) l)
      (rule 4 (equal (number r (full_place p r l i + 2) 2) i)
      (rule 10 (numbers_below p.modulus (full_opening_of p r l i) 6)
      (rule 13 (every (λ q. gives p (InEntry l i q) (full_opening_of p r l i q) (entry_commitment_of p r l i q)) 6)
      (rule 16
      (equal (i + 1) p.ballots implies permutes (λ k. sum_of_six p.modulus (full_opening_of p r l k)) (vote_of p r) p.ballots)
      kept))))

  abbrev pub rules_with : Bool → Bool → Due → ℕ
  rules_with copies drawn First = first_rules r
  rules_with copies drawn (Ballot j) = ballot_rules copies j
  rules_with copies drawn (Entry l i) = entry_rules l i
  rules_with copies drawn FirstDice = first_dice_rules drawn
  rules_with copies drawn (Link l j) = link_rules l j
  rules_with copies drawn SecondDice = second_dice_rules
  rules_with copies drawn (BallotHalf j) = ballot_half_rules drawn j
  rules_with copies drawn (ListHalf l j) = list_half_rules l j
  rules_with copies drawn (Vote i) = vote_rules i
  rules_with copies drawn (FullOpening l i) = full_rules l i
  rules_with copies drawn End = kept

  -- where the due command stands
  abbrev pub place_of : Due → ℕ
  place_of First = 0
  place_of (Ballot j) = at_ballot p j
  place_of (Entry l i) = at_entry p l i
  place_of FirstDice = at_first_dice p
  place_of (Link l j) = link_place p r l j
  place_of SecondDice = at_second_dice p
  place_of (BallotHalf j) = at_ballot_half p j
  place_of (ListHalf l j) = list_half_place p r l j
  place_of (Vote i) = at_vote p i
  place_of (FullOpening l i) = full_place p r l i
  place_of End = at_end p

  -- "In it: no byte left 1, byte not due 2, operands cut short 1, then rising numbers.", which `rising` says
  abbrev pub in_command : Due → ℕ → ℕ
  in_command d rising =
      rule 1 (below (place_of d) (length r))
      (rule 2 (equal (item r (place_of d)) (code p d)) (rule 1 (at_most (place_of d + width p d) (length r)) rising))

  unfoldable pub fault_with : Bool → Bool → Due → ℕ
  fault_with copies drawn d = in_command d (rules_with copies drawn d)

  -- without rule 21: a command read by itself
  abbrev pub rules : Bool → Due → ℕ
  rules drawn d = rules_with false drawn d

  abbrev pub fault : Bool → Due → ℕ
  fault drawn d = fault_with false drawn d
