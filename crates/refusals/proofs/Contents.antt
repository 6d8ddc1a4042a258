-- Tests over one slice are those of document 01: ids that rise, and permutations one behind the other, three a list.
use mathlib.Core.Path.{◌≡◌, sym, ap, ◌∙◌}
use mathlib.Core.Bool.{Bool, true, false}
use mathlib.Core.List.{List}
use Prim.Native.Nat.{ℕ, ◌+◌, ◌-◌, ◌*◌, ◌/◌, ◌%◌, ◌≤◌, ◌<◌}
use native.Mathlib.Decide.{dec_lt}
use Rattle.std.proofs.Common.{ltb, ltb-true, ltb-false}
use Rattle.std.specs.Bool.{MatchBool}
use Rattle.std.specs.List.{AllWithin, HoldsAt, IsAllAdjacentAnswer}
use native.Mathlib.Nat.{mul-le-mul_right}
use native.Mathlib.Omega.{arith}
use lib.ListN.{length}
use Rattle.laws.specs.Tests.{equal, below, ◌or◌, every, every_iff, every_stop, by_iff, is_equal, not_equal, is_below, not_below, is_at_most, not_at_most, or_go, or_stop}
use Rattle.laws.specs.Chunks.{piece, get_piece}
use Rattle.laws.specs.Permutations.{Perm}
use Rattle.protocol.specs.Terms.{item}
use Rattle.protocol.specs.Columns.{is_permutation}
use Rattle.protocol.specs.Inputs.{Slices, list_permutations, inputs_of}
use Rattle.protocol.specs.Refusals.{ids_rise, all_permutations}
use Rattle.protocol.proofs.Unrefused.{permutation_iff}
use Rattle.refusals.specs.Contents.{rising, binary, permutations_in}

-- of ids that are sorted by `<` each is above the one before
pub rising_lem : (ids : List ℕ) (r : Bool) → IsAllAdjacentAnswer (λ x y b. b ≡ ltb x y) ids r → r ≡ rising ids
unfolding rising
rising_lem ids true h =
    sym ((every_iff _ (length ids)).1 (λ j l. at j l (dec_lt 0 j)))
  where
    at : (j : ℕ) → j < length ids → Dec (0 < j) → (equal j 0 or below (item ids (j - 1)) (item ids j)) ≡ true
    at j l (yes h₀) =
        let back : j - 1 + 1 ≡ j = omega arith in
        let above : ltb (item ids (j - 1)) (item ids (j - 1 + 1)) ≡ true = sym (h (j - 1) 0 (omega arith)) in
        sym (or_go _ _ (not_equal (omega arith)) (sym (is_below (ltb-true _ _ (rw back at above)))))
    at j l (no n) = sym (or_stop _ _ (is_equal (omega arith)))
rising_lem ids false h =
    let (k, l, above) = h in
    every_stop _ (length ids) (k + 1) l
    (sym (or_go (equal (k + 1) 0) _ (not_equal (omega arith)) (sym (ap (λ (i : ℕ). below (item ids i) (item ids (k + 1))) (omega arith) ∙ not_below (ltb-false _ _ (sym (above 0)))))))

-- what `all` tests of each side
pub binary_lem : (sides : List ℕ) (r : Bool)
    → MatchBool r (AllWithin (λ x. x ≤ 1) sides 0 (length sides)) ((k : ℕ) × (k < length sides) × HoldsAt (λ x. 1 < x) sides k)
    → r ≡ binary sides
unfolding binary
binary_lem sides true h = sym ((every_iff _ (length sides)).1 (λ j l. is_at_most (h j 0 (omega arith) l)))
binary_lem sides false h = let (k, l, above) = h in every_stop _ (length sides) k l (not_at_most (above 0))

pub rising_is : (s : Slices) → length s.ids ≡ s.parameters.ballots → rising s.ids ≡ ids_rise s
unfolding rising ids_rise
rising_is s long = rw long

-- only the places below n matter
same_perm : {n : ℕ} {p q : ℕ → ℕ} → ((i : ℕ) → i < n → p i ≡ q i) → Perm n p → Perm n q
same_perm {n} {p} {q} same h = record {
  below = λ i l. omega (arith, h.below i l, same i l);
  apart = λ i j li lj e. h.apart i j li lj (same i li ∙ e ∙ sym (same j lj));
}

same_permutation : (n : ℕ) (p q : ℕ → ℕ) → ((i : ℕ) → i < n → p i ≡ q i) → is_permutation n p ≡ is_permutation n q
same_permutation n p q same =
    by_iff (is_permutation n p) (is_permutation n q)
    (λ e. (permutation_iff n q).1 (same_perm same ((permutation_iff n p).0 e)))
    (λ e. (permutation_iff n p).1 (same_perm (λ i l. sym (same i l)) ((permutation_iff n q).0 e)))

module _ (s : Slices) where
  -- permutation c of list l
  one : (l c : ℕ) → c < 3 → is_permutation s.parameters.ballots (item (piece s.permutations ((3 * l + c) * s.parameters.ballots) s.parameters.ballots)) ≡ is_permutation s.parameters.ballots ((inputs_of s).permutation l c)
  unfolding inputs_of list_permutations
  one l c h = same_permutation s.parameters.ballots _ _ same
    where
      same : (i : ℕ) → i < s.parameters.ballots → item (piece s.permutations ((3 * l + c) * s.parameters.ballots) s.parameters.ballots) i ≡ item (piece s.permutations (l * (3 * s.parameters.ballots)) (3 * s.parameters.ballots)) (c * s.parameters.ballots + i)
      same i k =
          let at : (3 * l + c) * s.parameters.ballots + i ≡ l * (3 * s.parameters.ballots) + (c * s.parameters.ballots + i) = omega arith in
          get_piece s.permutations ((3 * l + c) * s.parameters.ballots) s.parameters.ballots i k ∙ ap (item s.permutations) at
          ∙ sym (get_piece s.permutations (l * (3 * s.parameters.ballots)) (3 * s.parameters.ballots) (c * s.parameters.ballots + i) (omega (arith, mul-le-mul_right {m = c} {n = 2} s.parameters.ballots (omega arith))))

  pub permutations_in_lem : permutations_in s.parameters s.permutations ≡ all_permutations s
  unfolding permutations_in all_permutations
  permutations_in_lem = by_iff _ _ there back
    where
      flat : ℕ → Bool
      flat d = is_permutation s.parameters.ballots (item (piece s.permutations (d * s.parameters.ballots) s.parameters.ballots))

      three : ℕ → Bool
      three l = every (λ c. is_permutation s.parameters.ballots ((inputs_of s).permutation l c)) 3

      there : every flat (6 * s.parameters.compared) ≡ true → every three (2 * s.parameters.compared) ≡ true
      there e =
          (every_iff three (2 * s.parameters.compared)).1
          (λ l ll. (every_iff (λ c. is_permutation s.parameters.ballots ((inputs_of s).permutation l c)) 3).1 (λ c lc. sym (one l c lc) ∙ (every_iff flat (6 * s.parameters.compared)).0 e (3 * l + c) (omega arith)))

      back : every three (2 * s.parameters.compared) ≡ true → every flat (6 * s.parameters.compared) ≡ true
      back e =
          (every_iff flat (6 * s.parameters.compared)).1
          (λ d ld.
          let split : 3 * (d / 3) + d % 3 ≡ d = omega arith in
          ap flat (sym split) ∙ one (d / 3) (d % 3) (omega arith)
          ∙ (every_iff (λ c. is_permutation s.parameters.ballots ((inputs_of s).permutation (d / 3) c)) 3).0 ((every_iff three (2 * s.parameters.compared)).0 e (d / 3) (omega arith)) (d % 3) (omega arith))
