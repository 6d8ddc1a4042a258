-- What writers refuse: the first test that fails, in the writers' order.
use mathlib.Core.Path.{◌≡◌, refl, sym, ◌∙◌}
use mathlib.Core.Logic.{◌↔◌, ◌≢◌, ◌⊎◌, inl, inr, ⊎_map}
use mathlib.Core.Bool.{Bool, true, false}
use mathlib.Core.List.{List}
use Prim.Native.Nat.{ℕ, zero, suc, ◌-◌, ◌≤◌, ◌<◌}
use native.Mathlib.Numerals.{unary_clauses}
use native.Mathlib.Omega.{arith}
use Rattle.laws.specs.Tests.{◌and◌, every, unequal_iff, differ_fails, below_fails, at_most_fails, and_fails, or_fails, every_fails, never}
use Rattle.laws.specs.Faults.{rule, kept}
use Rattle.protocol.specs.declared.Parameters.{Parameters}
use Rattle.protocol.specs.Terms.{item, modulus_in_limits, ballots_in_limits, lists_in_limits, in_limits, all_below}
use Rattle.protocol.specs.Rules.{right_shape}
use Rattle.protocol.specs.Tablet.{tablet_refusal}
use Rattle.protocol.specs.Columns.{is_permutation, row_refusal, pair_refusal}
use Rattle.protocol.specs.Results.{draw_refusal}
use Rattle.protocol.specs.Inputs.{Slices, inputs_of}
use Rattle.protocol.specs.Servers.{posted_board}
use Rattle.protocol.specs.Refusals.{due_lengths, ids_rise, all_permutations, refusal, part_one_refusal, part_two_refusal, part_two_drawn_refusal, binary_sides, part_three_refusal, part_three_drawn_refusal, all_original}
use Rattle.protocol.specs.Election.{Choice, chosen, drawn, mask_in_shape, sides_due, sides_binary, election_refusal}
use Rattle.protocol.specs.Broken.{ModulusOutside, BallotsOutside, ListsOutside}
use Rattle.protocol.specs.Unfit.{InputTest, three, eighteen, rest, input_number, input_rank, Wrong, Unfit, outside_limits, other_length, not_above, unfair, wrong_shape, not_below, above_one, no_permutation, FirstRefusal, Misshapen, AnyNotBelow, AnyAboveOne, NoPermutation, tablet_wrong, row_wrong, pair_wrong, draw_wrong, part_wrong, part_one_wrong, part_two_wrong, part_two_drawn_wrong, part_three_wrong, part_three_drawn_wrong, mask_wrong, sides_other_length, sides_wrong, election_wrong, copied_ballot, AnyCopied}
use Rattle.protocol.proofs.Chains.{Firsts, Chain, kept_chain, rule_chain, chain_firsts, firsts_none, firsts_some}
use Rattle.protocol.proofs.Named.{outside, unfair as unfair_iff, unoriginal}

-- ---- the nine tests in their order

alike : (t u : InputTest) → input_rank t ≡ input_rank u → input_number t ≡ input_number u
alike three three e = refl
alike three eighteen e = absurd (omega arith)
alike three (rest k) e = absurd (omega arith)
alike eighteen three e = absurd (omega arith)
alike eighteen eighteen e = refl
alike eighteen (rest k) e = absurd (omega arith)
alike (rest j) three e = absurd (omega arith)
alike (rest j) eighteen e = absurd (omega arith)
alike (rest j) (rest k) e = omega arith

-- the test b fails exactly if A
abbrev pub Tells : Bool → Type 0 → Type 0
Tells b A = (b ≡ false) ↔ A

module _ (w : Wrong) (b3 b18 b5 b6 b7 b10 b11 b19 b21 : Bool) where
  nine : ℕ
  nine = rule 3 b3 (rule 18 b18 (rule 5 b5 (rule 6 b6 (rule 7 b7 (rule 10 b10 (rule 11 b11 (rule 19 b19 (rule 21 b21 kept))))))))

  module _ (t3 : Tells b3 w.limits) (t18 : Tells b18 w.lengths) (t5 : Tells b5 w.ids) (t6 : Tells b6 w.dice) (t7 : Tells b7 w.mask) (t10 : Tells b10 w.numbers) (t11 : Tells b11 w.sides) (t19 : Tells b19 w.permutations) (t21 : Tells b21 w.copies) where
    nine_chain : Chain input_number input_rank (Unfit w) 0 nine
    unfolding nine
    nine_chain =
        rule_chain input_number input_rank three _ _ refl refl (λ e. outside_limits (t3.0 e))
        (rule_chain input_number input_rank eighteen _ _ refl refl (λ e. other_length (t18.0 e))
        (rule_chain input_number input_rank (rest 5) _ _ refl refl (λ e. not_above (t5.0 e))
        (rule_chain input_number input_rank (rest 6) _ _ refl refl (λ e. unfair (t6.0 e))
        (rule_chain input_number input_rank (rest 7) _ _ refl refl (λ e. wrong_shape (t7.0 e))
        (rule_chain input_number input_rank (rest 10) _ _ refl refl (λ e. not_below (t10.0 e))
        (rule_chain input_number input_rank (rest 11) _ _ refl refl (λ e. above_one (t11.0 e))
        (rule_chain input_number input_rank (rest 19) _ _ refl refl (λ e. no_permutation (t19.0 e))
        (rule_chain input_number input_rank (rest 21) _ _ refl refl (λ e. copied_ballot (t21.0 e)) (kept_chain input_number input_rank)))))))))

    fails : {u : InputTest} → Unfit w u → nine_chain.Fails u
    unfolding nine_chain
    fails (outside_limits h) = inl (refl, t3.1 h)
    fails (other_length h) = inr (inl (refl, t18.1 h))
    fails (not_above h) = inr (inr (inl (refl, t5.1 h)))
    fails (unfair h) = inr (inr (inr (inl (refl, t6.1 h))))
    fails (wrong_shape h) = inr (inr (inr (inr (inl (refl, t7.1 h)))))
    fails (not_below h) = inr (inr (inr (inr (inr (inl (refl, t10.1 h))))))
    fails (above_one h) = inr (inr (inr (inr (inr (inr (inl (refl, t11.1 h)))))))
    fails (no_permutation h) = inr (inr (inr (inr (inr (inr (inr (inl (refl, t19.1 h))))))))
    fails (copied_ballot h) = inr (inr (inr (inr (inr (inr (inr (inr (inl (refl, t21.1 h)))))))))

    nine_first : FirstRefusal w nine
    nine_first =
        record {
          none = firsts_none input_number input_rank firsts;
          first = λ k ne. (
            λ e. let f = firsts.some (λ z. ne (sym e ∙ z)) in (f.0, sym (f.1 ∙ e), f.2, f.3),
            λ t. firsts_some input_number input_rank alike firsts t.0 t.2 t.3 ∙ sym t.1,
          );
        }
      where
        firsts : Firsts input_number input_rank (Unfit w) nine
        firsts = chain_firsts input_number input_rank nine_chain (λ u. fails)

-- ---- each test, as a statement

-- a test that is not made
untested : Tells true ⊥
untested = (λ e. never refl e, λ e. absurd e)

both : {a b : Bool} {A B : Type 0} → Tells a A → Tells b B → Tells (a and b) (A ⊎ B)
both {a} {b} f g = (λ e. ⊎_map f.0 g.0 ((and_fails a b).0 e), λ h. (and_fails a b).1 (⊎_map f.1 g.1 h))

any : {f : ℕ → Bool} {P : ℕ → Type 0} (n : ℕ) → ((i : ℕ) → Tells (f i) (P i)) → Tells (every f n) ((i : ℕ) × (i < n) × P i)
any {f} n h = (λ e. let t = (every_fails f n).0 e in (t.0, t.1, (h t.0).0 t.2), λ t. (every_fails f n).1 (t.0, t.1, (h t.0).1 t.2))

modulus : (M : ℕ) → Tells (modulus_in_limits M) (ModulusOutside M)
unfolding modulus_in_limits
modulus M = outside _ _ M

ballots : (n : ℕ) → Tells (ballots_in_limits n) (BallotsOutside n)
unfolding ballots_in_limits
ballots n = outside _ _ n

limits : (p : Parameters) → Tells (in_limits p) (ModulusOutside p.modulus ⊎ BallotsOutside p.ballots ⊎ ListsOutside p.compared)
unfolding in_limits ballots_in_limits lists_in_limits
limits p = both (modulus _) (both (ballots _) (outside _ _ _))

shape : (m mask : ℕ) → Tells (right_shape m mask) (Misshapen m mask)
unfolding right_shape
shape m mask = both (unequal_iff _ _) (below_fails _ _)

all_below_lem : (M : ℕ) (l : List ℕ) → Tells (all_below M l) (AnyNotBelow M l)
unfolding all_below
all_below_lem M l = any _ (λ i. below_fails _ _)

permutation : (n : ℕ) (perm : ℕ → ℕ) → Tells (is_permutation n perm) (NoPermutation n perm)
unfolding is_permutation
permutation n perm = any n (λ i. both (below_fails _ _) (any i (λ j. differ_fails _ _)))

-- ---- the writers

pub tablet_first : (M w x y u1 u2 u3 keys_long command_long receipt_long : ℕ)
    → FirstRefusal (tablet_wrong M w x y u1 u2 u3 keys_long command_long receipt_long) (tablet_refusal M w x y u1 u2 u3 keys_long command_long receipt_long)
unfolding tablet_refusal rule nine
tablet_first M w x y u1 u2 u3 keys_long command_long receipt_long =
    nine_first (tablet_wrong M w x y u1 u2 u3 keys_long command_long receipt_long) _ _ true true true _ true true true (modulus M)
    (both (unequal_iff _ _) (both (unequal_iff _ _) (unequal_iff _ _))) untested untested untested
    (both (below_fails _ _) (both (below_fails _ _) (both (below_fails _ _) (both (below_fails _ _) (both (below_fails _ _) (below_fails _ _)))))) untested untested untested

pub row_first : (M n : ℕ) (numbers offsets perm : List ℕ) (out_long : ℕ)
    → FirstRefusal (row_wrong M n numbers offsets perm out_long) (row_refusal M n numbers offsets perm out_long)
unfolding row_refusal rule nine
row_first M n numbers offsets perm out_long =
    nine_first (row_wrong M n numbers offsets perm out_long) _ _ true true true _ true _ true (both (modulus M) (ballots n))
    (both (unequal_iff _ _) (both (unequal_iff _ _) (both (unequal_iff _ _) (unequal_iff _ _)))) untested untested untested
    (both (all_below_lem M numbers) (all_below_lem M offsets)) untested (permutation n (item perm)) untested

pub pair_first : (M n : ℕ) (one two : List ℕ) (out_long : ℕ) → FirstRefusal (pair_wrong M n one two out_long) (pair_refusal M n one two out_long)
unfolding pair_refusal rule nine
pair_first M n one two out_long =
    nine_first (pair_wrong M n one two out_long) _ _ true true true _ true true true (both (modulus M) (ballots n))
    (both (unequal_iff _ _) (both (unequal_iff _ _) (unequal_iff _ _))) untested untested untested (both (all_below_lem M one) (all_below_lem M two)) untested untested untested

pub draw_first : (p : Parameters) (dice : List ℕ) (one_long : ℕ) → FirstRefusal (draw_wrong p dice one_long) (draw_refusal p dice one_long)
unfolding draw_refusal rule nine
draw_first p dice one_long =
    nine_first (draw_wrong p dice one_long) _ _ true _ true true true true true (limits _) (both (unequal_iff _ _) (unequal_iff _ _)) untested (unfair_iff dice) untested
    untested untested untested untested

module _ (s : Slices) where
  -- the first number has none before it
  rise : Tells (ids_rise s) ((j : ℕ) × (suc j < s.parameters.ballots) × (item s.ids (suc j) ≤ item s.ids j))
  unfolding ids_rise
  rise = (
    λ e. let t = (every_fails _ _).0 e in let f = (or_fails _ _).0 t.2 in go t.0 t.1 ((unequal_iff _ _).0 f.0) ((below_fails _ _).0 f.1),
    λ t. (every_fails _ _).1 (suc t.0, t.1, (or_fails _ _).1 ((unequal_iff _ _).1 (λ z. omega arith), (below_fails _ _).1 (simp unary_clauses t.2))),
  )
    where
      go : (i : ℕ) → i < s.parameters.ballots → i ≢ 0 → item s.ids i ≤ item s.ids (i - 1) → (j : ℕ) × (suc j < s.parameters.ballots) × (item s.ids (suc j) ≤ item s.ids j)
      go zero l ne h = absurd (ne refl)
      go (suc j) l ne h = (j, l, simp unary_clauses at h)

  -- a ballot has a commitment of an earlier one
  pub copied : Tells (all_original s) (AnyCopied (posted_board (inputs_of s)).ballot_commitment s.parameters.ballots)
  unfolding all_original
  copied = (
    λ e. let (j, lj, h) = (every_fails _ _).0 e in let (i, a, b, l, la, lb, q) = (unoriginal _ j).0 h in (i, j, a, b, l, lj, la, lb, q),
    λ c. let (i, j, a, b, l, lj, la, lb, q) = c in (every_fails _ _).1 (j, lj, (unoriginal _ j).1 (i, a, b, l, la, lb, q)),
  )

  part_first : (lengths fair right binary : Bool) (L D M S : Type 0) → Tells lengths L → Tells fair D → Tells right M → Tells binary S
      → FirstRefusal (part_wrong s L D M S) (refusal s lengths fair right binary)
  unfolding refusal due_lengths all_permutations nine
  part_first lengths fair right binary L D M S l d m b =
      nine_first (part_wrong s L D M S) _ _ _ _ _ _ _ _ _ (limits _)
      (both (both (unequal_iff _ _) (both (unequal_iff _ _) (both (unequal_iff _ _) (both (unequal_iff _ _) (unequal_iff _ _))))) l)
      rise d m (both (all_below_lem _ _) (all_below_lem _ _)) b (any _ (λ l. any _ (λ c. permutation _ _))) copied

  sides_binary_lem : (sides : List ℕ) → Tells (binary_sides s sides) (AnyAboveOne s sides)
  unfolding binary_sides
  sides_binary_lem sides = any _ (λ j. at_most_fails _ _)

  pub part_one_first : (out_long : ℕ) → FirstRefusal (part_one_wrong s out_long) (part_one_refusal s out_long)
  unfolding part_one_refusal
  part_one_first out_long = part_first _ _ _ _ _ _ _ _ (unequal_iff _ _) untested untested untested

  pub part_two_first : (dice : List ℕ) (mask out_long : ℕ) → FirstRefusal (part_two_wrong s dice mask out_long) (part_two_refusal s dice mask out_long)
  unfolding part_two_refusal
  part_two_first dice mask out_long = part_first _ _ _ _ _ _ _ _ (both (unequal_iff _ _) (unequal_iff _ _)) (unfair_iff dice) (shape _ mask) untested

  pub part_two_drawn_first : (dice : List ℕ) (one_long out_long : ℕ)
      → FirstRefusal (part_two_drawn_wrong s dice one_long out_long) (part_two_drawn_refusal s dice one_long out_long)
  unfolding part_two_drawn_refusal
  part_two_drawn_first dice one_long out_long =
      part_first _ _ _ _ _ _ _ _ (both (unequal_iff _ _) (both (unequal_iff _ _) (unequal_iff _ _))) (unfair_iff dice) untested untested

  pub part_three_first : (dice : List ℕ) (mask : ℕ) (sides : List ℕ) (out_long : ℕ)
      → FirstRefusal (part_three_wrong s dice mask sides out_long) (part_three_refusal s dice mask sides out_long)
  unfolding part_three_refusal
  part_three_first dice mask sides out_long =
      part_first _ _ _ _ _ _ _ _ (both (unequal_iff _ _) (both (unequal_iff _ _) (unequal_iff _ _))) (unfair_iff dice) (shape _ mask) (sides_binary_lem sides)

  pub part_three_drawn_first : (dice : List ℕ) (mask one_long two_long out_long : ℕ)
      → FirstRefusal (part_three_drawn_wrong s dice mask one_long two_long out_long) (part_three_drawn_refusal s dice mask one_long two_long out_long)
  unfolding part_three_drawn_refusal
  part_three_drawn_first dice mask one_long two_long out_long =
      part_first _ _ _ _ _ _ _ _ (both (unequal_iff _ _) (both (unequal_iff _ _) (both (unequal_iff _ _) (unequal_iff _ _)))) (unfair_iff dice) (shape _ mask) untested

  given_mask : (by_mask : Choice ℕ) → Tells (mask_in_shape s.parameters by_mask) (mask_wrong s by_mask)
  unfolding mask_in_shape
  given_mask (chosen mask) = shape _ mask
  given_mask drawn = untested

  given_long : (by_sides : Choice (List ℕ)) → Tells (sides_due s.parameters by_sides) (sides_other_length s by_sides)
  unfolding sides_due
  given_long (chosen sides) = unequal_iff _ _
  given_long drawn = untested

  given_sides : (by_sides : Choice (List ℕ)) → Tells (sides_binary s by_sides) (sides_wrong s by_sides)
  unfolding sides_binary
  given_sides (chosen sides) = sides_binary_lem sides
  given_sides drawn = untested

  pub election_first : (by_mask : Choice ℕ) (dice₁ : List ℕ) (by_sides : Choice (List ℕ)) (dice₂ : List ℕ) (one_long two_long three_long joined_long : ℕ)
      → FirstRefusal (election_wrong s by_mask dice₁ by_sides dice₂ one_long two_long three_long joined_long)
      (election_refusal s by_mask dice₁ by_sides dice₂ one_long two_long three_long joined_long)
  unfolding election_refusal
  election_first by_mask dice₁ by_sides dice₂ one_long two_long three_long joined_long =
      part_first _ _ _ _ _ _ _ _
      (both (unequal_iff _ _) (both (unequal_iff _ _) (both (given_long by_sides) (both (unequal_iff _ _) (both (unequal_iff _ _) (both (unequal_iff _ _) (unequal_iff _ _)))))))
      (both (unfair_iff dice₁) (unfair_iff dice₂)) (given_mask by_mask) (given_sides by_sides)
