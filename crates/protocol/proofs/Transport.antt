-- What is valid stays so with a board and a comparison that say the same inside of their bounds.
use mathlib.Core.Path.{◌≡◌, sym, ◌∙◌}
use mathlib.Core.List.{List}
use Prim.Native.Nat.{ℕ, suc, ◌+◌, ◌*◌, ◌≤◌, ◌<◌}
use native.Mathlib.Nat.{le_of_lt}
use native.Mathlib.Omega.{arith}
use Rattle.laws.specs.Masks.{bit}
use Rattle.laws.specs.Permutations.{Perm}
use Rattle.protocol.specs.declared.Parameters.{Parameters}
use Rattle.protocol.specs.Terms.{Scheme}
use Rattle.protocol.specs.Layout.{lists}
use Rattle.protocol.specs.Record.{Board, Comparison, Disclosure}
use Rattle.protocol.specs.Stands.{ValidOver}

-- ---- the board

-- a board over given parameters
abbrev pub board_with : Parameters → (ℕ → ℕ) → (ℕ → ℕ → List ℕ) → (ℕ → ℕ → ℕ → List ℕ) → Board
board_with p id ballot entry = record { parameters = p; id = id; ballot_commitment = ballot; entry_commitment = entry }

pub slot_in : (c s : ℕ) → c < 3 → s ≤ 1 → 2 * c + s < 6
slot_in c s lc ls = omega arith

pub board_moved : {commit : Scheme} (p : Parameters) (id id' : ℕ → ℕ) (ballot ballot' : ℕ → ℕ → List ℕ) (entry entry' : ℕ → ℕ → ℕ → List ℕ) (k : Comparison) (d : Disclosure)
    → ((j : ℕ) → j < p.ballots → id j ≡ id' j)
    → ((j q : ℕ) → j < p.ballots → q < 6 → ballot j q ≡ ballot' j q)
    → ((l i q : ℕ) → l < lists p → i < p.ballots → q < 6 → entry l i q ≡ entry' l i q)
    → ValidOver commit (board_with p id ballot entry) k d → ValidOver commit (board_with p id' ballot' entry') k d
board_moved p id id' ballot ballot' entry entry' k d same_id same_ballot same_entry v = record {
  modulus_low = v.modulus_low;
  modulus_high = v.modulus_high;
  ballots_low = v.ballots_low;
  ballots_high = v.ballots_high;
  compared_low = v.compared_low;
  compared_high = v.compared_high;
  ids_rise = λ j lj. rw (← same_id j (le_of_lt lj), ← same_id (suc j) lj) (v.ids_rise j lj);
  first_fair = v.first_fair;
  mask_ones = v.mask_ones;
  mask_bits = v.mask_bits;
  positions = v.positions;
  shifts = v.shifts;
  second_fair = v.second_fair;
  sides = v.sides;
  ballot_numbers = v.ballot_numbers;
  ballot_opens = λ j c lj lc.
      rw (← same_id j lj) (v.ballot_opens j c lj lc) ∙ same_ballot j (2 * c + d.side j) lj (slot_in c (d.side j) lc (v.sides j lj));
  list_numbers = v.list_numbers;
  list_opens = λ l j c ll set lj lc.
      v.list_opens l j c ll set lj lc
      ∙ same_entry l (k.position l j) (2 * c + d.side j) ll ((v.positions l ll set).below j lj) (slot_in c (d.side j) lc (v.sides j lj));
  first_halves_agree = v.first_halves_agree;
  second_halves_agree = v.second_halves_agree;
  votes_below = v.votes_below;
  votes_rise = v.votes_rise;
  full_numbers = v.full_numbers;
  full_opens = λ l i q ll clear li lq. v.full_opens l i q ll clear li lq ∙ same_entry l i q ll li lq;
  values = v.values;
}

-- ---- the comparison

-- a comparison with a given mask
abbrev pub comparison_with : List ℕ → ℕ → (ℕ → ℕ → ℕ) → (ℕ → ℕ → ℕ) → Comparison
comparison_with dice mask position shift = record { dice = dice; mask = mask; position = position; shift = shift }

perm_same : {n : ℕ} {f g : ℕ → ℕ} → ((j : ℕ) → j < n → f j ≡ g j) → Perm n f → Perm n g
perm_same {n} {f} {g} same h = record {
  below = λ i li. rw (← same i li) (h.below i li);
  apart = λ i j li lj e. h.apart i j li lj (same i li ∙ e ∙ sym (same j lj));
}

pub comparison_moved : {commit : Scheme} (b : Board) (dice : List ℕ) (mask : ℕ) (position position' shift shift' : ℕ → ℕ → ℕ) (d : Disclosure)
    → ((l j : ℕ) → l < lists b.parameters → bit mask l ≡ 1 → j < b.parameters.ballots → position l j ≡ position' l j)
    → ((l j : ℕ) → l < lists b.parameters → bit mask l ≡ 1 → j < b.parameters.ballots → shift l j ≡ shift' l j)
    → ValidOver commit b (comparison_with dice mask position shift) d → ValidOver commit b (comparison_with dice mask position' shift') d
comparison_moved b dice mask position position' shift shift' d same_position same_shift v = record {
  modulus_low = v.modulus_low;
  modulus_high = v.modulus_high;
  ballots_low = v.ballots_low;
  ballots_high = v.ballots_high;
  compared_low = v.compared_low;
  compared_high = v.compared_high;
  ids_rise = v.ids_rise;
  first_fair = v.first_fair;
  mask_ones = v.mask_ones;
  mask_bits = v.mask_bits;
  positions = λ l ll set. perm_same (λ j lj. same_position l j ll set lj) (v.positions l ll set);
  shifts = λ l j ll set lj. rw (← same_shift l j ll set lj) (v.shifts l j ll set lj);
  second_fair = v.second_fair;
  sides = v.sides;
  ballot_numbers = v.ballot_numbers;
  ballot_opens = v.ballot_opens;
  list_numbers = v.list_numbers;
  list_opens = λ l j c ll set lj lc. rw (← same_position l j ll set lj) (v.list_opens l j c ll set lj lc);
  first_halves_agree = λ l j ll set lj s. rw (← same_shift l j ll set lj) (v.first_halves_agree l j ll set lj s);
  second_halves_agree = λ l j ll set lj s. rw (← same_shift l j ll set lj) (v.second_halves_agree l j ll set lj s);
  votes_below = v.votes_below;
  votes_rise = v.votes_rise;
  full_numbers = v.full_numbers;
  full_opens = v.full_opens;
  values = v.values;
}
