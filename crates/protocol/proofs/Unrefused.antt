-- What slices are that no writer refuses: each of due length, and what is read of them one by one is good.
use mathlib.Core.Path.{◌≡◌}
use mathlib.Core.Logic.Iff
use mathlib.Core.Logic.{◌↔◌}
use mathlib.Core.Bool.{Bool, true}
use mathlib.Core.List.{List}
use Prim.Native.Nat.{ℕ, suc, ◌+◌, ◌-◌, ◌*◌, ◌^◌, ◌≤◌, ◌<◌}
use native.Mathlib.Nat.{mul-le-mul_right}
use native.Mathlib.Omega.{arith}
use lib.Count.{ones}
use lib.ListN.{length}
use Rattle.laws.specs.Tests.{not_equal}
use Rattle.laws.specs.Faults.{rules}
use Rattle.laws.specs.Bytes.{Below}
use Rattle.laws.specs.Chunks.{piece, length_piece, get_piece}
use Rattle.laws.specs.Permutations.{Perm}
use Rattle.laws.proofs.Permutations.{perm_of}
use Rattle.protocol.specs.Terms.{item, most_ballots, all_below, modulus_in_limits, ballots_in_limits, lists_in_limits, in_limits}
use Rattle.protocol.specs.Columns.{is_permutation}
use Rattle.protocol.specs.Rules.{fair_die, fair_dice, right_shape, apart, original}
use Rattle.protocol.specs.Inputs.{Slices, ballot_numbers, list_numbers, ballot_keys, entry_keys, inputs_of}
use Rattle.protocol.specs.Servers.{posted_board}
use Rattle.protocol.specs.Stands.{Original}
use Rattle.protocol.specs.Refusals.{due_lengths, ids_rise, all_permutations, refusal, binary_sides, all_original}
use Rattle.protocol.proofs.Goodness.{FourBytes, Good}
use Rattle.protocol.proofs.Honesty.{Chosen}

-- ---- each test as a statement

pub fair_iff : (dice : List ℕ) → (fair_dice dice ≡ true) ↔ ((i : ℕ) → i < 30 → (49 ≤ item dice i) × (item dice i ≤ 54))
unfolding fair_dice fair_die
fair_iff dice = simp rules Iff.rfl

pub shape_iff : (m mask : ℕ) → (right_shape m mask ≡ true) ↔ ((ones mask ≡ m) × (mask < 2 ^ (2 * m)))
unfolding right_shape
shape_iff m mask = simp rules Iff.rfl

pub all_below_iff : (k : ℕ) (l : List ℕ) → (all_below k l ≡ true) ↔ Below k l
unfolding all_below
all_below_iff k l = simp rules Iff.rfl

pub binary_iff : (s : Slices) (sides : List ℕ) → (binary_sides s sides ≡ true) ↔ ((j : ℕ) → j < s.parameters.ballots → item sides j ≤ 1)
unfolding binary_sides
binary_iff s sides = simp rules Iff.rfl

pub permutation_iff : (n : ℕ) (perm : ℕ → ℕ) → (is_permutation n perm ≡ true) ↔ Perm n perm
unfolding is_permutation
permutation_iff n perm = (
  λ e. let h = simp rules at e in perm_of n perm (λ j l. (h j l).0) (λ j l. (h j l).1),
  λ p. simp rules (λ j l. (p.below j l, λ i k e. let q : i ≡ j = p.apart i j (omega arith) l e in omega arith)),
)

-- rule 21, as a statement
pub original_iff : (s : Slices) → (all_original s ≡ true) ↔ Original (posted_board (inputs_of s))
unfolding all_original original apart posted_board inputs_of
original_iff s = (
  λ e. let h = simp rules at e in record { apart = λ i j a b l lj la lb. h j lj i l a la b lb },
  λ o. simp rules (λ j lj i l a la b lb. o.apart i j a b l lj la lb),
)

-- ---- what no refusal gives

pub record Unrefused (s : Slices) (lengths fair shape binary : Bool) : Type 0 where
  pub modulus_low : 2 ≤ s.parameters.modulus
  pub modulus_high : s.parameters.modulus ≤ 4294967295
  pub ballots_low : 1 ≤ s.parameters.ballots
  pub ballots_high : s.parameters.ballots ≤ most_ballots
  pub compared_low : 1 ≤ s.parameters.compared
  pub compared_high : s.parameters.compared ≤ 12
  pub ids_long : length s.ids ≡ s.parameters.ballots
  pub votes_long : length s.votes ≡ s.parameters.ballots
  pub numbers_long : length s.numbers ≡ 5 * s.parameters.ballots + 18 * (s.parameters.compared * s.parameters.ballots)
  pub permutations_long : length s.permutations ≡ 6 * (s.parameters.compared * s.parameters.ballots)
  pub keys_long : length s.keys ≡ 192 * s.parameters.ballots + 384 * (s.parameters.compared * s.parameters.ballots)
  pub lengths_due : lengths ≡ true
  pub ids_rise : (j : ℕ) → suc j < s.parameters.ballots → item s.ids j < item s.ids (suc j)
  pub fair_dice : fair ≡ true
  pub right_shape : shape ≡ true
  pub votes_below : Below s.parameters.modulus s.votes
  pub numbers_below : Below s.parameters.modulus s.numbers
  pub binary_sides : binary ≡ true
  pub permutations : (l c : ℕ) → l < 2 * s.parameters.compared → c < 3 → Perm s.parameters.ballots ((inputs_of s).permutation l c)
  pub original : Original (posted_board (inputs_of s))

pub ruleset tests = (rules, all_below_iff, permutation_iff)

pub unrefused : (s : Slices) (lengths fair shape binary : Bool) → refusal s lengths fair shape binary ≡ 0 → Unrefused s lengths fair shape binary
unfolding refusal in_limits modulus_in_limits ballots_in_limits lists_in_limits due_lengths ids_rise all_permutations
unrefused s lengths fair shape binary e =
    let (limits, (due, (rise, (dice, (mask, (small, (sides, (perms, (unlike, rest))))))))) = simp tests at e in
    record {
      modulus_low = limits.0.0;
      modulus_high = limits.0.1;
      ballots_low = limits.1.0.0;
      ballots_high = limits.1.0.1;
      compared_low = limits.1.1.0;
      compared_high = limits.1.1.1;
      ids_long = due.0.0;
      votes_long = due.0.1.0;
      numbers_long = due.0.1.1.0;
      permutations_long = due.0.1.1.1.0;
      keys_long = due.0.1.1.1.1;
      lengths_due = due.1;
      ids_rise = λ j l. let before : suc j - 1 ≡ j = omega arith in rw before at (rise (suc j) l (not_equal (omega arith)));
      fair_dice = dice;
      right_shape = mask;
      votes_below = small.0;
      numbers_below = small.1;
      binary_sides = sides;
      permutations = λ l c ll lc. perms l ll c lc;
      original = (original_iff s).0 unlike;
    }

-- ---- what is read of the slices lies inside them

-- the pieces of one list end before those of all lists do
list_ends : (l m n w : ℕ) → l < 2 * m → l * (w * n) + w * n ≤ 2 * w * (m * n)
list_ends l m n w h = omega (arith, mul-le-mul_right {m = suc l} {n = 2 * m} (w * n) h)

module _ (s : Slices) {lengths fair shape binary : Bool} (u : Unrefused s lengths fair shape binary) where
  ballot_number_lem : (j k : ℕ) → j < s.parameters.ballots → k < 5 → item (ballot_numbers s j) k < s.parameters.modulus
  unfolding ballot_numbers
  ballot_number_lem j k lj lk = rw (get_piece s.numbers (5 * j) 5 k lk) (u.numbers_below (5 * j + k) (rw u.numbers_long (omega arith)))

  list_number : (l k : ℕ) → l < 2 * s.parameters.compared → k < 9 * s.parameters.ballots → item (list_numbers s l) k < s.parameters.modulus
  unfolding list_numbers
  list_number l k ll lk =
      let at : ℕ = 5 * s.parameters.ballots + l * (9 * s.parameters.ballots) in
      let e : l * (9 * s.parameters.ballots) + 9 * s.parameters.ballots ≤ 2 * 9 * (s.parameters.compared * s.parameters.ballots) = list_ends l s.parameters.compared s.parameters.ballots 9 ll in
      rw (get_piece s.numbers at (9 * s.parameters.ballots) k lk) (u.numbers_below (at + k) (rw u.numbers_long (omega arith)))

  -- column c has 2n offsets, at each place one for row one and one for row two
  in_column : (c i k : ℕ) → c < 3 → i < s.parameters.ballots → k < 2 → c * (2 * s.parameters.ballots) + (2 * i + k) < 9 * s.parameters.ballots
  in_column c i k lc li lk = omega (arith, mul-le-mul_right {m = c} {n = 2} (2 * s.parameters.ballots) (omega arith))

  ballot_key_lem : (j q : ℕ) → j < s.parameters.ballots → q < 6 → length (piece (ballot_keys s j) (32 * q) 32) ≡ 32
  unfolding ballot_keys
  ballot_key_lem j q lj lq =
      let e : length (ballot_keys s j) ≡ 192 = length_piece s.keys (192 * j) 192 (rw u.keys_long (omega arith)) in
      length_piece (ballot_keys s j) (32 * q) 32 (rw e (omega arith))

  entry_key_lem : (l i q : ℕ) → l < 2 * s.parameters.compared → i < s.parameters.ballots → q < 6 → length (piece (entry_keys s l i) (32 * q) 32) ≡ 32
  unfolding entry_keys
  entry_key_lem l i q ll li lq =
      let f : l * s.parameters.ballots + s.parameters.ballots ≤ 2 * (s.parameters.compared * s.parameters.ballots) = omega (arith, list_ends l s.parameters.compared s.parameters.ballots 1 ll) in
      let e : length (entry_keys s l i) ≡ 192 =
      length_piece s.keys (192 * s.parameters.ballots + 192 * (l * s.parameters.ballots + i)) 192 (rw u.keys_long (omega arith)) in
      length_piece (entry_keys s l i) (32 * q) 32 (rw e (omega arith))

  pub good_inputs : FourBytes s → Good (inputs_of s)
  unfolding inputs_of
  good_inputs fit = record {
    election_fits = fit.election;
    modulus_low = u.modulus_low;
    modulus_high = u.modulus_high;
    ballots_low = u.ballots_low;
    ballots_high = u.ballots_high;
    compared_low = u.compared_low;
    compared_high = u.compared_high;
    ids_fit = λ j lj. fit.ids j (rw u.ids_long lj);
    ids_rise = u.ids_rise;
    votes_below = λ j lj. u.votes_below j (rw u.votes_long lj);
    x_below = λ j lj. ballot_number_lem j 0 lj (omega arith);
    y_below = λ j lj. ballot_number_lem j 1 lj (omega arith);
    first_halves_below = λ j k lj lk. ballot_number_lem j (2 + k) lj (omega arith);
    offsets_below = λ l c k i ll lc lk li. list_number l (c * (2 * s.parameters.ballots) + (2 * i + k)) ll (in_column c i k lc li lk);
    entry_first_halves_below = λ l i k ll li lk. list_number l (6 * s.parameters.ballots + (3 * i + k)) ll (omega arith);
    permutations = u.permutations;
    ballot_keys = ballot_key_lem;
    entry_keys = entry_key_lem;
  }

pub good : (s : Slices) (lengths fair shape binary : Bool) → FourBytes s → refusal s lengths fair shape binary ≡ 0 → Good (inputs_of s)
good s lengths fair shape binary fit e = good_inputs s (unrefused s lengths fair shape binary e) fit

-- dice, mask and sides that pass their tests
pub chosen : (s : Slices) (dice₁ dice₂ : List ℕ) (mask : ℕ) (sides : List ℕ) → length dice₁ ≡ 30 → fair_dice dice₁ ≡ true → length dice₂ ≡ 30 → fair_dice dice₂ ≡ true
    → right_shape s.parameters.compared mask ≡ true → binary_sides s sides ≡ true → Chosen (inputs_of s) dice₁ dice₂ mask (item sides)
unfolding inputs_of
chosen s dice₁ dice₂ mask sides long₁ fair₁ long₂ fair₂ shape binary = record {
  first_long = long₁;
  first_fair = (fair_iff dice₁).0 fair₁;
  second_long = long₂;
  second_fair = (fair_iff dice₂).0 fair₂;
  mask_ones = ((shape_iff s.parameters.compared mask).0 shape).0;
  mask_below = ((shape_iff s.parameters.compared mask).0 shape).1;
  sides = (binary_iff s sides).0 binary;
}
