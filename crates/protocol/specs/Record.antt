-- Document 01, "The record": what a record says, read from it at the places of the layout. Beside it the same as a value of its
-- own, in three pieces as the servers write it, and the bytes that say it.
use Rattle.std.specs.Prelude.{List, [], ◌∷◌, ◌++◌, ℕ, ◌+◌, ◌*◌}
use Rattle.laws.specs.Tests.{equal, choose, pick}
use Rattle.laws.specs.Bytes.{number, bytes}
use Rattle.laws.specs.Masks.{bit, set_before, clear_before}
use Rattle.laws.specs.Chunks.{piece, chunks}
use Rattle.protocol.specs.declared.Form.{Form}
use Rattle.protocol.specs.declared.Form.TheVariants.{Unnumbered, Numbered}
use Rattle.protocol.specs.declared.Parameters.{Parameters}
use Rattle.protocol.specs.Tablet.{ballot_command}
use Rattle.protocol.specs.Terms.{item}
use Rattle.protocol.specs.Layout.{number_width, lists, at_ballot, at_entry, at_first_dice, at_link, at_second_dice, at_ballot_half, at_list_half, at_vote, at_full_opening}

-- ---- read from a record

-- the first command's form: 0C with the election's number, and whatever else stands there is to be 01
unfoldable pub form_of : List ℕ → Form
form_of r = pick (equal (item r 0) 0x0C) (Numbered (number r 1 4)) Unnumbered

-- "01 parameters: M 4, n 2, m 1.", or "election number 4, any value, then M, n, m as in 01"
abbrev pub parameters_in : Form → List ℕ → Parameters
parameters_in form r =
    let w = number_width form in
    record { form = form; modulus = number r (1 + w) 4; ballots = number r (5 + w) 2; compared = number r (7 + w) 1 }

unfoldable pub parameters_of : List ℕ → Parameters
parameters_of r = parameters_in (form_of r) r

module _ (p : Parameters) (r : List ℕ) where
  -- "02 ballot ..: id 4, six commitments 192."
  unfoldable pub id_of : ℕ → ℕ
  id_of j = number r (at_ballot p j + 1) 4

  unfoldable pub ballot_commitment_of : ℕ → ℕ → List ℕ
  ballot_commitment_of j q = piece r (at_ballot p j + 5 + 32 * q) 32

  -- "03 list entry ..: list 1, position 2, six commitments 192."
  unfoldable pub entry_commitment_of : ℕ → ℕ → ℕ → List ℕ
  entry_commitment_of l i q = piece r (at_entry p l i + 4 + 32 * q) 32

  -- "04 first dice: 30 characters .., mask 4. Bit i of the mask (bit 0 lowest) is set where list i is compared"
  unfoldable pub first_dice_of : List ℕ
  first_dice_of = piece r (at_first_dice p + 1) 30

  unfoldable pub mask_of : ℕ
  mask_of = number r (at_first_dice p + 31) 4

  -- "05 link ..: list 1, ballot 2, position 2, t 4."
  unfoldable pub link_place : ℕ → ℕ → ℕ
  link_place l j = at_link p (set_before mask_of l) j

  unfoldable pub position_of : ℕ → ℕ → ℕ
  position_of l j = number r (link_place l j + 4) 2

  unfoldable pub shift_of : ℕ → ℕ → ℕ
  shift_of l j = number r (link_place l j + 6) 4

  -- "06 second dice: 30 characters."
  unfoldable pub second_dice_of : List ℕ
  second_dice_of = piece r (at_second_dice p + 1) 30

  -- "07 ballot half ..: ballot 2, side 1, three openings 108."
  unfoldable pub side_of : ℕ → ℕ
  side_of j = number r (at_ballot_half p j + 3) 1

  unfoldable pub ballot_opening_of : ℕ → ℕ → List ℕ
  ballot_opening_of j k = piece r (at_ballot_half p j + 4 + 36 * k) 36

  -- "one 08: list 1, position 2 (the linked one), three openings of the same side"
  unfoldable pub list_half_place : ℕ → ℕ → ℕ
  list_half_place l j = at_list_half p j (set_before mask_of l)

  unfoldable pub list_opening_of : ℕ → ℕ → ℕ → List ℕ
  list_opening_of l j k = piece r (list_half_place l j + 4 + 36 * k) 36

  -- "09 announced vote ..: index 2, vote 4."
  unfoldable pub vote_of : ℕ → ℕ
  vote_of i = number r (at_vote p i + 3) 4

  -- "0A full opening ..: list 1, position 2, six openings 216."
  unfoldable pub full_place : ℕ → ℕ → ℕ
  full_place l i = at_full_opening p (clear_before mask_of l) i

  unfoldable pub full_opening_of : ℕ → ℕ → ℕ → List ℕ
  full_opening_of l i q = piece r (full_place l i + 4 + 36 * q) 36

-- ---- what is said

-- before the first dice: commands 01 or 0C, 02 and 03, by ballot, list, position and slot
pub record Board : Type 0 where
  pub parameters : Parameters
  pub id : ℕ → ℕ
  pub ballot_commitment : ℕ → ℕ → List ℕ
  pub entry_commitment : ℕ → ℕ → ℕ → List ℕ

-- the comparison of ballots with lists: commands 04 and 05, by list and ballot
pub record Comparison : Type 0 where
  pub dice : List ℕ
  pub mask : ℕ
  pub position : ℕ → ℕ → ℕ
  pub shift : ℕ → ℕ → ℕ

-- the openings and the votes: commands 06 to 0B
pub record Disclosure : Type 0 where
  pub dice : List ℕ
  pub side : ℕ → ℕ
  pub ballot_opening : ℕ → ℕ → List ℕ
  pub list_opening : ℕ → ℕ → ℕ → List ℕ
  pub vote : ℕ → ℕ
  pub full_opening : ℕ → ℕ → ℕ → List ℕ

-- what a record says
abbrev pub board_of : List ℕ → Board
board_of r =
    let p = parameters_of r in
    record { parameters = p; id = id_of p r; ballot_commitment = ballot_commitment_of p r; entry_commitment = entry_commitment_of p r }

abbrev pub comparison_of : List ℕ → Comparison
comparison_of r =
    let p = parameters_of r in
    record { dice = first_dice_of p r; mask = mask_of p r; position = position_of p r; shift = shift_of p r }

abbrev pub disclosure_of : List ℕ → Disclosure
disclosure_of r =
    let p = parameters_of r in
    record {
      dice = second_dice_of p r;
      side = side_of p r;
      ballot_opening = ballot_opening_of p r;
      list_opening = list_opening_of p r;
      vote = vote_of p r;
      full_opening = full_opening_of p r;
    }

-- ---- the bytes that say it

-- the command byte, and behind 0C the election's number
unfoldable pub form_bytes : Form → List ℕ
form_bytes Unnumbered = 0x01 ∷ []
form_bytes (Numbered election) = 0x0C ∷ bytes 4 election

unfoldable pub first_command : Parameters → List ℕ
first_command p = (form_bytes p.form ++ bytes 4 p.modulus) ++ (bytes 2 p.ballots ++ bytes 1 p.compared)

unfoldable pub entry_command : ℕ → ℕ → (ℕ → List ℕ) → List ℕ
entry_command l i commitments = ((3 ∷ bytes 1 l) ++ bytes 2 i) ++ chunks commitments 6

unfoldable pub first_dice_command : List ℕ → ℕ → List ℕ
first_dice_command dice mask = (4 ∷ dice) ++ bytes 4 mask

unfoldable pub link_command : ℕ → ℕ → ℕ → ℕ → List ℕ
link_command l j position t = (((5 ∷ bytes 1 l) ++ bytes 2 j) ++ bytes 2 position) ++ bytes 4 t

unfoldable pub second_dice_command : List ℕ → List ℕ
second_dice_command dice = 6 ∷ dice

unfoldable pub ballot_half_command : ℕ → ℕ → (ℕ → List ℕ) → List ℕ
ballot_half_command j side openings = ((7 ∷ bytes 2 j) ++ bytes 1 side) ++ chunks openings 3

unfoldable pub list_half_command : ℕ → ℕ → (ℕ → List ℕ) → List ℕ
list_half_command l position openings = ((8 ∷ bytes 1 l) ++ bytes 2 position) ++ chunks openings 3

unfoldable pub vote_command : ℕ → ℕ → List ℕ
vote_command i vote = (9 ∷ bytes 2 i) ++ bytes 4 vote

unfoldable pub full_command : ℕ → ℕ → (ℕ → List ℕ) → List ℕ
full_command l i openings = ((10 ∷ bytes 1 l) ++ bytes 2 i) ++ chunks openings 6

-- Document 01, "Servers' writing": "Three parts ..: 01 to 03; 04 and 05; 06 to 0B."
unfoldable pub part_one : Board → List ℕ
part_one b =
    let p = b.parameters in
    first_command p
    ++ (chunks (λ j. ballot_command (b.id j) (b.ballot_commitment j)) p.ballots
    ++ chunks (λ l. chunks (λ i. entry_command l i (b.entry_commitment l i)) p.ballots) (lists p))

unfoldable pub part_two : Parameters → Comparison → List ℕ
part_two p k =
    first_dice_command k.dice k.mask
    ++ chunks (λ l. choose (bit k.mask l) [] (chunks (λ j. link_command l j (k.position l j) (k.shift l j)) p.ballots)) (lists p)

-- a ballot's half, and for every compared list that of the linked entry
unfoldable pub halves : Parameters → ℕ → (ℕ → ℕ → ℕ) → Disclosure → ℕ → List ℕ
halves p mask position d j =
    ballot_half_command j (d.side j) (d.ballot_opening j)
    ++ chunks (λ l. choose (bit mask l) [] (list_half_command l (position l j) (d.list_opening l j))) (lists p)

unfoldable pub part_three : Parameters → ℕ → (ℕ → ℕ → ℕ) → Disclosure → List ℕ
part_three p mask position d =
    second_dice_command d.dice
    ++ (chunks (halves p mask position d) p.ballots
    ++ (chunks (λ i. vote_command i (d.vote i)) p.ballots
    ++ (chunks (λ l. choose (bit mask l) (chunks (λ i. full_command l i (d.full_opening l i)) p.ballots) []) (lists p) ++ (11 ∷ []))))

-- "the three buffers .., joined in order"
unfoldable pub encoding : Board → Comparison → Disclosure → List ℕ
encoding b k d = part_one b ++ (part_two b.parameters k ++ part_three b.parameters k.mask k.position d)
