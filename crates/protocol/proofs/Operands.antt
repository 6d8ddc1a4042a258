-- Where the operands of each command stand in it.
use mathlib.Core.Path.{◌≡◌, sym, ap, ◌∙◌}
use mathlib.Core.List.{List, [], ◌∷◌, ◌++◌}
use Prim.Native.Nat.{ℕ, ◌+◌, ◌*◌, ◌^◌, ◌<◌}
use native.Mathlib.Nat.{add-zero}
use native.Mathlib.Omega.{arith}
use lib.ListN.{length, length-append}
use Rattle.laws.specs.Bytes.{number, bytes, length_bytes, number_bytes}
use Rattle.laws.specs.Tests.{equal}
use Rattle.laws.specs.Chunks.{chunks, piece}
use Rattle.laws.specs.At.{At, at_self, at_move, at_left, at_right, at_in, at_get, at_number, at_whole, field}
use Rattle.protocol.specs.declared.Form.{Form}
use Rattle.protocol.specs.declared.Form.TheVariants.{Unnumbered, Numbered}
use Rattle.protocol.specs.declared.Parameters.{Parameters}
use Rattle.protocol.specs.Terms.{item, election_number}
use Rattle.protocol.specs.Tablet.{ballot_command}
use Rattle.protocol.specs.Layout.{first_code, number_width}
use Rattle.protocol.specs.Record.{form_of, parameters_of, form_bytes, first_command, entry_command, first_dice_command, link_command, second_dice_command, ballot_half_command, list_half_command, vote_command, full_command}
use Rattle.protocol.proofs.Widths.{length_form}

-- ---- reading what stands at a place

-- the first byte
pub reads_byte : {r c : List ℕ} {a : ℕ} (x : ℕ) → At r a (x ∷ c) → item r a ≡ x
reads_byte {r} {c} {a} x h = ap (λ (k : ℕ). item r k) (sym (add-zero a)) ∙ at_get h 0 (omega arith)

-- a number
pub reads_number : {r c : List ℕ} {a b : ℕ} (w x : ℕ) → At r a c → At c b (bytes w x) → x < 256 ^ w → number r (a + b) w ≡ x
reads_number {r} {c} {a} {b} w x h k small =
    ap (λ (i : ℕ). number r i w) (sym (add-zero (a + b))) ∙ at_number (at_in h k) 0 w (omega (arith, length_bytes w x)) ∙ number_bytes w x small

-- the first command's byte, and its form
reads_code : {r : List ℕ} {a : ℕ} (form : Form) → At r a (form_bytes form) → item r a ≡ first_code form
unfolding form_bytes first_code
reads_code Unnumbered h = reads_byte 1 h
reads_code (Numbered election) h = reads_byte 12 h

reads_form : {r : List ℕ} (form : Form) → At r 0 (form_bytes form) → election_number form < 4294967296 → form_of r ≡ form
unfolding form_bytes form_of election_number equal
reads_form {r} Unnumbered h small = let b : item r 0 ≡ 1 = reads_byte 1 h in rw b
reads_form {r} (Numbered election) h small =
    let b : item r 0 ≡ 12 = reads_byte 12 h in
    let e : number r 1 4 ≡ election = reads_number 4 election h (at_right (12 ∷ []) (at_self (bytes 4 election))) small in
    rw (b, e)

-- a piece
pub reads_piece : {r c : List ℕ} {a b : ℕ} (at w : ℕ) (d : List ℕ) → At r a c → At c b d → at ≡ a + b → length d ≡ w → piece r at w ≡ d
reads_piece {r} {c} {a} {b} at w d h k e long = rw e (at_whole (a + b) w long (at_in h k))

-- ---- a head of one number, or of two, and pieces behind it

number_in : (x v y : ℕ) (rest : List ℕ) → At ((x ∷ bytes v y) ++ rest) 1 (bytes v y)
number_in x v y rest = at_left rest (at_right (x ∷ []) (at_self (bytes v y)))

next_in : (x v y w z : ℕ) (rest : List ℕ) → At (((x ∷ bytes v y) ++ bytes w z) ++ rest) (1 + v) (bytes w z)
next_in x v y w z rest = at_left rest (at_move (omega (arith, length_bytes v y)) (at_right (x ∷ bytes v y) (at_self (bytes w z))))

piece_in : (head : List ℕ) (f : ℕ → List ℕ) (h w n k : ℕ) → length head ≡ h → ((j : ℕ) → j < n → length (f j) ≡ w) → k < n → At (head ++ chunks f n) (h + w * k) (f k)
piece_in head f h w n k e wide l = at_move (omega arith) (field head f w n k wide l)

-- ---- the commands

module _ (p : Parameters) where
  abbrev head : List ℕ
  head = form_bytes p.form ++ bytes 4 p.modulus

  length_head : length head ≡ 5 + number_width p.form
  length_head = omega (arith, length-append (form_bytes p.form) (bytes 4 p.modulus), length_form p.form, length_bytes 4 p.modulus)

  pub first_form : At (first_command p) 0 (form_bytes p.form)
  unfolding first_command
  first_form = at_left (bytes 2 p.ballots ++ bytes 1 p.compared) (at_left (bytes 4 p.modulus) (at_self (form_bytes p.form)))

  pub first_modulus : At (first_command p) (1 + number_width p.form) (bytes 4 p.modulus)
  unfolding first_command
  first_modulus =
      at_left (bytes 2 p.ballots ++ bytes 1 p.compared)
      (at_move (omega (arith, length_form p.form)) (at_right (form_bytes p.form) (at_self (bytes 4 p.modulus))))

  pub first_ballots : At (first_command p) (5 + number_width p.form) (bytes 2 p.ballots)
  unfolding first_command
  first_ballots =
      at_move (omega (arith, length_head))
      (at_right head (at_left (bytes 1 p.compared) (at_self (bytes 2 p.ballots))))

  pub first_compared : At (first_command p) (7 + number_width p.form) (bytes 1 p.compared)
  unfolding first_command
  first_compared =
      at_move (omega (arith, length_head, length_bytes 2 p.ballots))
      (at_right head (at_right (bytes 2 p.ballots) (at_self (bytes 1 p.compared))))

  pub reads_first : {r : List ℕ} {a : ℕ} → At r a (first_command p) → item r a ≡ first_code p.form
  reads_first {r} {a} h = reads_code p.form (at_move (add-zero a) (at_in h first_form))

  -- what is read of it, in types that hold it
  module _ {r : List ℕ} (h : At r 0 (first_command p)) (election : election_number p.form < 4294967296)
      (modulus : p.modulus < 4294967296) (ballots : p.ballots < 65536) (compared : p.compared < 256) where
    form_is : form_of r ≡ p.form
    form_is = reads_form p.form (at_in h first_form) election

    operand : (b w x : ℕ) → At (first_command p) b (bytes w x) → x < 256 ^ w → number r b w ≡ x
    operand b w x k small = let z : b ≡ 0 + b = omega arith in ap (λ (i : ℕ). number r i w) z ∙ reads_number w x h k small

    pub reads_parameters : parameters_of r ≡ p
    unfolding parameters_of
    reads_parameters =
        let w : ℕ = number_width p.form in
        rw (
          form_is,
          operand (1 + w) 4 p.modulus first_modulus modulus,
          operand (5 + w) 2 p.ballots first_ballots ballots,
          operand (7 + w) 1 p.compared first_compared compared,
        )

module _ (id : ℕ) (c : ℕ → List ℕ) where
  pub ballot_id_lem : At (ballot_command id c) 1 (bytes 4 id)
  unfolding ballot_command
  ballot_id_lem = number_in 2 4 id (chunks c 6)

  pub ballot_commitment_lem : ((q : ℕ) → q < 6 → length (c q) ≡ 32) → (q : ℕ) → q < 6 → At (ballot_command id c) (5 + 32 * q) (c q)
  unfolding ballot_command
  ballot_commitment_lem wide q = piece_in (2 ∷ bytes 4 id) c 5 32 6 q (simp length_bytes) wide

module _ (l i : ℕ) (c : ℕ → List ℕ) where
  pub entry_list : At (entry_command l i c) 1 (bytes 1 l)
  unfolding entry_command
  entry_list = at_left (chunks c 6) (number_in 3 1 l (bytes 2 i))

  pub entry_position : At (entry_command l i c) 2 (bytes 2 i)
  unfolding entry_command
  entry_position = next_in 3 1 l 2 i (chunks c 6)

  pub entry_commitment_lem : ((q : ℕ) → q < 6 → length (c q) ≡ 32) → (q : ℕ) → q < 6 → At (entry_command l i c) (4 + 32 * q) (c q)
  unfolding entry_command
  entry_commitment_lem wide q = piece_in ((3 ∷ bytes 1 l) ++ bytes 2 i) c 4 32 6 q (simp (length-append, length_bytes)) wide

module _ (dice : List ℕ) (mask : ℕ) where
  pub first_dice_dice : At (first_dice_command dice mask) 1 dice
  unfolding first_dice_command
  first_dice_dice = at_left (bytes 4 mask) (at_right (4 ∷ []) (at_self dice))

  pub first_dice_mask : length dice ≡ 30 → At (first_dice_command dice mask) 31 (bytes 4 mask)
  unfolding first_dice_command
  first_dice_mask e = at_move (omega arith) (at_right (4 ∷ dice) (at_self (bytes 4 mask)))

module _ (l j position t : ℕ) where
  pub link_list : At (link_command l j position t) 1 (bytes 1 l)
  unfolding link_command
  link_list = at_left (bytes 4 t) (at_left (bytes 2 position) (number_in 5 1 l (bytes 2 j)))

  pub link_ballot : At (link_command l j position t) 2 (bytes 2 j)
  unfolding link_command
  link_ballot = at_left (bytes 4 t) (next_in 5 1 l 2 j (bytes 2 position))

  pub link_position_lem : At (link_command l j position t) 4 (bytes 2 position)
  unfolding link_command
  link_position_lem = at_left (bytes 4 t) (at_move (simp (length-append, length_bytes)) (at_right ((5 ∷ bytes 1 l) ++ bytes 2 j) (at_self (bytes 2 position))))

  pub link_shift_lem : At (link_command l j position t) 6 (bytes 4 t)
  unfolding link_command
  link_shift_lem = at_move (simp (length-append, length_bytes)) (at_right (((5 ∷ bytes 1 l) ++ bytes 2 j) ++ bytes 2 position) (at_self (bytes 4 t)))

pub second_dice_dice : (dice : List ℕ) → At (second_dice_command dice) 1 dice
unfolding second_dice_command
second_dice_dice dice = at_right (6 ∷ []) (at_self dice)

module _ (j side : ℕ) (o : ℕ → List ℕ) where
  pub ballot_half_ballot : At (ballot_half_command j side o) 1 (bytes 2 j)
  unfolding ballot_half_command
  ballot_half_ballot = at_left (chunks o 3) (number_in 7 2 j (bytes 1 side))

  pub ballot_half_side : At (ballot_half_command j side o) 3 (bytes 1 side)
  unfolding ballot_half_command
  ballot_half_side = next_in 7 2 j 1 side (chunks o 3)

  pub ballot_half_opening : ((c : ℕ) → c < 3 → length (o c) ≡ 36) → (c : ℕ) → c < 3 → At (ballot_half_command j side o) (4 + 36 * c) (o c)
  unfolding ballot_half_command
  ballot_half_opening wide c = piece_in ((7 ∷ bytes 2 j) ++ bytes 1 side) o 4 36 3 c (simp (length-append, length_bytes)) wide

module _ (l position : ℕ) (o : ℕ → List ℕ) where
  pub list_half_list : At (list_half_command l position o) 1 (bytes 1 l)
  unfolding list_half_command
  list_half_list = at_left (chunks o 3) (number_in 8 1 l (bytes 2 position))

  pub list_half_position : At (list_half_command l position o) 2 (bytes 2 position)
  unfolding list_half_command
  list_half_position = next_in 8 1 l 2 position (chunks o 3)

  pub list_half_opening : ((c : ℕ) → c < 3 → length (o c) ≡ 36) → (c : ℕ) → c < 3 → At (list_half_command l position o) (4 + 36 * c) (o c)
  unfolding list_half_command
  list_half_opening wide c = piece_in ((8 ∷ bytes 1 l) ++ bytes 2 position) o 4 36 3 c (simp (length-append, length_bytes)) wide

module _ (i vote : ℕ) where
  pub vote_index : At (vote_command i vote) 1 (bytes 2 i)
  unfolding vote_command
  vote_index = number_in 9 2 i (bytes 4 vote)

  pub vote_vote : At (vote_command i vote) 3 (bytes 4 vote)
  unfolding vote_command
  vote_vote = at_move (simp length_bytes) (at_right (9 ∷ bytes 2 i) (at_self (bytes 4 vote)))

module _ (l i : ℕ) (o : ℕ → List ℕ) where
  pub full_list : At (full_command l i o) 1 (bytes 1 l)
  unfolding full_command
  full_list = at_left (chunks o 6) (number_in 10 1 l (bytes 2 i))

  pub full_position : At (full_command l i o) 2 (bytes 2 i)
  unfolding full_command
  full_position = next_in 10 1 l 2 i (chunks o 6)

  pub full_opening_lem : ((q : ℕ) → q < 6 → length (o q) ≡ 36) → (q : ℕ) → q < 6 → At (full_command l i o) (4 + 36 * q) (o q)
  unfolding full_command
  full_opening_lem wide q = piece_in ((10 ∷ bytes 1 l) ++ bytes 2 i) o 4 36 6 q (simp (length-append, length_bytes)) wide
