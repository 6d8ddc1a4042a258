-- Records with the same bytes before the first dice, or before the second: what is read there is the same.
use mathlib.Core.Path.{◌≡◌, sym, ap, ◌∙◌}
use mathlib.Core.List.{List}
use Prim.Native.Nat.{ℕ, ◌+◌, ◌*◌, ◌≤◌, ◌<◌}
use native.Mathlib.Nat.{le_refl}
use native.Mathlib.Omega.{arith}
use lib.Arith.{digits_lt}
use lib.ListN.{get_or, take}
use lib.Seq.{get_or-take, take-take}
use Rattle.laws.specs.Bytes.{number_same}
use Rattle.laws.specs.Chunks.{piece_same}
use Rattle.laws.specs.Masks.{set_before}
use Rattle.protocol.specs.declared.Parameters.{Parameters}
use Rattle.protocol.specs.Terms.{item}
use Rattle.protocol.specs.Layout.{number_width, first_width, lists, at_ballot, at_entry, at_first_dice, at_link, at_second_dice}
use Rattle.protocol.specs.Record.{form_of, parameters_of, id_of, ballot_commitment_of, entry_commitment_of, first_dice_of, mask_of, link_place, position_of, shift_of}
use Rattle.protocol.specs.Demand3.{before_first_dice}

-- a shorter beginning
pub take_less : (r s : List ℕ) (d e c : ℕ) → take d r ≡ take e s → c ≤ d → c ≤ e → take c r ≡ take c s
take_less r s d e c h k l = sym (take-take c d r k) ∙ ap (take c) h ∙ take-take c e s l

-- ---- the parameters

-- the first byte
byte_same : (r s : List ℕ) → take 8 r ≡ take 8 s → item r 0 ≡ item s 0
byte_same r s t = sym (get_or-take 8 r 0 0 (omega arith)) ∙ ap (λ (x : List ℕ). get_or x 0 0) t ∙ get_or-take 8 s 0 0 (omega arith)

-- eight bytes tell the form
form_same : (r s : List ℕ) → take 8 r ≡ take 8 s → form_of r ≡ form_of s
unfolding form_of
form_same r s t = let b : item r 0 ≡ item s 0 = byte_same r s t in rw (b, number_same r s 8 1 4 t (omega arith))

-- the same bytes up to an end, behind the whole first command of either
pub parameters_within : (r s : List ℕ) (end : ℕ) → take end r ≡ take end s → first_width (parameters_of r) ≤ end → parameters_of r ≡ parameters_of s
unfolding parameters_of
parameters_within r s end h l =
    let w : ℕ = number_width (form_of r) in
    let f : form_of s ≡ form_of r = sym (form_same r s (take_less r s end end 8 h (omega arith) (omega arith))) in
    let t : take (8 + w) r ≡ take (8 + w) s = take_less r s end end (8 + w) h l l in
    rw (f, number_same r s (8 + w) (1 + w) 4 t (omega arith), number_same r s (8 + w) (5 + w) 2 t (omega arith), number_same r s (8 + w) (7 + w) 1 t (omega arith))

pub first_low : (p : Parameters) → first_width p ≤ at_first_dice p
unfolding at_first_dice
first_low p = omega arith

pub parameters_alike : (r s : List ℕ) → before_first_dice r ≡ before_first_dice s → parameters_of r ≡ parameters_of s
unfolding parameters_of
parameters_alike r s e =
    let d : ℕ = at_first_dice (parameters_of r) in
    let d' : ℕ = at_first_dice (parameters_of s) in
    let low : first_width (parameters_of r) ≤ d = first_low (parameters_of r) in
    let low' : first_width (parameters_of s) ≤ d' = first_low (parameters_of s) in
    let f : form_of r ≡ form_of s = form_same r s (take_less r s d d' 8 e (omega (arith, low)) (omega (arith, low'))) in
    parameters_within r s (first_width (parameters_of r)) (take_less r s d d' (first_width (parameters_of r)) e low (rw f low')) (le_refl (first_width (parameters_of r)))

-- ---- before the first dice

module _ (p : Parameters) (r s : List ℕ) (e : take (at_first_dice p) r ≡ take (at_first_dice p) s) where
  pub id_alike : (j : ℕ) → j < p.ballots → id_of p r j ≡ id_of p s j
  unfolding id_of at_ballot at_first_dice
  id_alike j lj = number_same r s (at_first_dice p) (at_ballot p j + 1) 4 e (omega arith)

  pub ballot_alike : (j q : ℕ) → j < p.ballots → q < 6 → ballot_commitment_of p r j q ≡ ballot_commitment_of p s j q
  unfolding ballot_commitment_of at_ballot at_first_dice
  ballot_alike j q lj lq = piece_same r s (at_first_dice p) (at_ballot p j + 5 + 32 * q) 32 e (omega arith)

  pub entry_alike : (l i q : ℕ) → l < lists p → i < p.ballots → q < 6 → entry_commitment_of p r l i q ≡ entry_commitment_of p s l i q
  unfolding entry_commitment_of at_entry at_first_dice
  entry_alike l i q ll li lq =
      piece_same r s (at_first_dice p) (at_entry p l i + 4 + 32 * q) 32 e
      (omega (arith, digits_lt {q = l} {m = lists p} {r = i} {c = p.ballots} ll li))

-- ---- before the second dice

module _ (p : Parameters) (r s : List ℕ) (e : take (at_second_dice p) r ≡ take (at_second_dice p) s) where
  pub dice_alike : first_dice_of p r ≡ first_dice_of p s
  unfolding first_dice_of at_second_dice
  dice_alike = piece_same r s (at_second_dice p) (at_first_dice p + 1) 30 e (omega arith)

  pub mask_alike : mask_of p r ≡ mask_of p s
  unfolding mask_of at_second_dice
  mask_alike = number_same r s (at_second_dice p) (at_first_dice p + 31) 4 e (omega arith)

  place_alike : (l j : ℕ) → link_place p r l j ≡ link_place p s l j
  unfolding link_place
  place_alike l j = rw mask_alike

  place_in : (l j : ℕ) → set_before (mask_of p s) l < p.compared → j < p.ballots → link_place p s l j + 10 ≤ at_second_dice p
  unfolding link_place at_link at_second_dice
  place_in l j lc lj = omega (arith, digits_lt {q = set_before (mask_of p s) l} {m = p.compared} {r = j} {c = p.ballots} lc lj)

  pub position_alike : (l j : ℕ) → set_before (mask_of p s) l < p.compared → j < p.ballots → position_of p r l j ≡ position_of p s l j
  unfolding position_of
  position_alike l j lc lj = rw (place_alike l j) (number_same r s (at_second_dice p) (link_place p s l j + 4) 2 e (omega (arith, place_in l j lc lj)))

  pub shift_alike : (l j : ℕ) → set_before (mask_of p s) l < p.compared → j < p.ballots → shift_of p r l j ≡ shift_of p s l j
  unfolding shift_of
  shift_alike l j lc lj = rw (place_alike l j) (number_same r s (at_second_dice p) (link_place p s l j + 6) 4 e (omega (arith, place_in l j lc lj)))
