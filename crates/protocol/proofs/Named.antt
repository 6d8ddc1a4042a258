-- What the plain statements of `Broken` say and what the rules test are the same, command by command and test by test.
use mathlib.Core.Path.{◌≡◌, refl}
use mathlib.Core.Logic.{◌↔◌, ◌≢◌, ◌⊎◌, inl, inr, ⊎_elim, ⊎_map}
use mathlib.Core.Bool.{Bool, true, false}
use mathlib.Core.List.{List}
use Prim.Native.Nat.{ℕ, zero, suc, ◌+◌, ◌-◌, ◌≤◌, ◌<◌}
use native.Mathlib.Numerals.{unary_clauses}
use native.Mathlib.Omega.{arith}
use lib.Dec.{leb, ltb}
use Rattle.laws.specs.Tests.{at_most, ◌and◌, equal_iff, unequal_iff, differ_fails, below_fails, at_most_fails, and_fails, or_fails, implies_fails, every_fails, same_fails, unlike_fails}
use Rattle.laws.specs.Faults.{rule}
use Rattle.laws.specs.Modular.{plus, minus}
use Rattle.laws.specs.Permuting.{permutes_fails}
use Rattle.protocol.specs.declared.Parameters.{Parameters}
use Rattle.protocol.specs.declared.Due.{Due}
use Rattle.protocol.specs.declared.Due.TheVariants.{First, Ballot, Entry, FirstDice, Link, SecondDice, BallotHalf, ListHalf, Vote, FullOpening, End}
use Rattle.protocol.specs.Terms.{item, modulus_in_limits, ballots_in_limits, lists_in_limits, in_limits, opened}
use Rattle.protocol.specs.Record.{id_of, vote_of}
use Rattle.protocol.specs.Rules.{fair_die, fair_dice, right_shape, numbers_below, gives, apart, original, agrees, first_rules, ballot_rules, entry_rules, first_dice_rules, link_rules, second_dice_rules, ballot_half_rules, list_half_rules, vote_rules, full_rules, rules_with, fault_with}
use Rattle.protocol.specs.Broken.{Test, none_left, not_due, cut_short, numbered, test_number, test_rank, Unfair, Broken, is_none_left, is_cut_short, is_not_due, modulus, ballots, lists, entry_list, entry_position, link_list, link_ballot, half_ballot, half_list, half_position, vote_index, full_list, full_position, id, first_die, second_die, mask_ones, mask_bits, mask_drawn, position, taken, shift, ballot_number, list_number, vote, full_number, side, side_drawn, ballot_opening, list_opening, full_opening, first_halves, second_halves, falls, values, copied}
use Rattle.protocol.proofs.Chains.{Firsts, Chain, kept_chain, rule_chain, chain_firsts}

-- ---- tests that fail, as statements

pub outside : (a b x : ℕ) → ((at_most a x and at_most x b) ≡ false) ↔ ((x < a) ⊎ (b < x))
outside a b x = (
  λ e. ⊎_map (at_most_fails a x).0 (at_most_fails x b).0 ((and_fails (at_most a x) (at_most x b)).0 e),
  λ h. (and_fails (at_most a x) (at_most x b)).1 (⊎_map (at_most_fails a x).1 (at_most_fails x b).1 h),
)

pub unfair : (dice : List ℕ) → (fair_dice dice ≡ false) ↔ ((i : ℕ) × (i < 30) × Unfair (item dice i))
unfolding fair_dice fair_die
unfair dice = (
  λ e. let t = (every_fails _ _).0 e in (t.0, t.1, (outside 49 54 (item dice t.0)).0 t.2),
  λ t. (every_fails _ _).1 (t.0, t.1, (outside 49 54 (item dice t.0)).1 t.2),
)

too_large : (M : ℕ) (openings : ℕ → List ℕ) (k : ℕ) → (numbers_below M openings k ≡ false) ↔ ((c : ℕ) × (c < k) × (M ≤ opened (openings c)))
unfolding numbers_below
too_large M openings k = (
  λ e. let t = (every_fails _ _).0 e in (t.0, t.1, (below_fails _ _).0 t.2),
  λ t. (every_fails _ _).1 (t.0, t.1, (below_fails _ _).1 t.2),
)

disagree : (M s b l t : ℕ) → (agrees M s b l t ≡ false) ↔ (((s ≡ 0) × (b ≢ plus M l t)) ⊎ ((s ≢ 0) × (b ≢ minus M l t)))
unfolding agrees
disagree M zero b l t = (λ e. inl (refl, (unequal_iff _ _).0 e), ⊎_elim (λ h. (unequal_iff _ _).1 h.1) (λ h. absurd (h.0 refl)))
disagree M (suc s) b l t = (λ e. inr (λ z. omega arith, (unequal_iff _ _).0 e), ⊎_elim (λ h. absurd (let z = h.0 in omega arith)) (λ h. (unequal_iff _ _).1 h.1))

-- a ballot that is not original has a commitment of an earlier one
pub unoriginal : (posted : ℕ → ℕ → List ℕ) (j : ℕ) → (original posted j ≡ false)
    ↔ ((i s t : ℕ) × (i < j) × (s < 6) × (t < 6) × (posted i s ≡ posted j t))
unfolding original apart
unoriginal posted j = (
  λ e.
      let (i, l, f) = (every_fails _ _).0 e in
      let (s, m, g) = (every_fails _ _).0 f in
      let (t, n, h) = (every_fails _ _).0 g in
      (i, s, t, l, m, n, (unlike_fails _ _).0 h),
  λ c.
      let (i, s, t, l, m, n, h) = c in
      (every_fails _ _).1 (i, l, (every_fails _ _).1 (s, m, (every_fails _ _).1 (t, n, (unlike_fails _ _).1 h))),
)

-- ---- the rules of each command

-- a rule with its number; what its failed test says
abbrev numbers : {P : Test → Type 0} {s : ℕ} (k : ℕ) → leb s (3 + k) ≡ true → ltb 0 k ≡ true → (b : Bool) (rest : ℕ) → (b ≡ false → P (numbered k))
    → Chain test_number test_rank P (3 + k) rest → Chain test_number test_rank P s (rule k b rest)
numbers k up pos b rest say c = rule_chain test_number test_rank (numbered k) b rest up pos say c

module _ (copies drawn : Bool) (p : Parameters) (r : List ℕ) where
  abbrev Rules : Due → ℕ → Type 1
  Rules d v = Chain test_number test_rank (Broken copies drawn p r d) 2 v

  abbrev end : {d : Due} {s : ℕ} → Chain test_number test_rank (Broken copies drawn p r d) s 0
  end = kept_chain test_number test_rank

  first_chain : Rules First (first_rules r)
  unfolding first_rules in_limits modulus_in_limits ballots_in_limits lists_in_limits
  first_chain =
      numbers 3 refl refl _ _
      (λ e. ⊎_elim (λ f. modulus ((outside _ _ _).0 f)) (λ g. ⊎_elim (λ f. ballots ((outside _ _ _).0 f)) (λ f. lists ((outside _ _ _).0 f)) ((and_fails _ _).0 g)) ((and_fails _ _).0 e))
      end

  ballot_chain : (j : ℕ) → Rules (Ballot j) (ballot_rules p r copies j)
  unfolding ballot_rules
  ballot_chain j =
      numbers 5 refl refl _ _ (λ e. let t = (or_fails _ _).0 e in above j ((unequal_iff _ _).0 t.0) ((below_fails _ _).0 t.1))
      (numbers 21 refl refl _ _ (λ e. let t = (implies_fails _ _).0 e in let (i, s, u, l, ls, lu, q) = (unoriginal _ j).0 t.1 in copied i j s u t.0 l ls lu q) end)
    where
      above : (j : ℕ) → j ≢ 0 → id_of p r j ≤ id_of p r (j - 1) → Broken copies drawn p r (Ballot j) (numbered 5)
      above zero ne h = absurd (ne refl)
      above (suc j) ne h = id j (simp unary_clauses at h)

  entry_chain : (l i : ℕ) → Rules (Entry l i) (entry_rules p r l i)
  unfolding entry_rules
  entry_chain l i = numbers 4 refl refl _ _ (λ e. entry_list l i ((unequal_iff _ _).0 e)) (numbers 4 refl refl _ _ (λ e. entry_position l i ((unequal_iff _ _).0 e)) end)

  first_dice_chain : Rules FirstDice (first_dice_rules p r drawn)
  unfolding first_dice_rules right_shape
  first_dice_chain =
      numbers 6 refl refl _ _ (λ e. let t = (unfair _).0 e in first_die t.0 t.1 t.2)
      (numbers 7 refl refl _ _ (λ e. ⊎_elim (λ f. mask_ones ((unequal_iff _ _).0 f)) (λ f. mask_bits ((below_fails _ _).0 f)) ((and_fails _ _).0 e))
      (numbers 8 refl refl _ _ (λ e. let t = (implies_fails _ _).0 e in mask_drawn t.0 ((unequal_iff _ _).0 t.1)) end))

  link_chain : (l j : ℕ) → Rules (Link l j) (link_rules p r l j)
  unfolding link_rules
  link_chain l j =
      numbers 4 refl refl _ _ (λ e. link_list l j ((unequal_iff _ _).0 e))
      (numbers 4 refl refl _ _ (λ e. link_ballot l j ((unequal_iff _ _).0 e))
      (numbers 9 refl refl _ _ (λ e. position l j ((below_fails _ _).0 e))
      (numbers 9 refl refl _ _ (λ e. let t = (every_fails _ _).0 e in taken l j t.0 t.1 ((differ_fails _ _).0 t.2))
      (numbers 10 refl refl _ _ (λ e. shift l j ((below_fails _ _).0 e)) end))))

  second_dice_chain : Rules SecondDice (second_dice_rules p r)
  unfolding second_dice_rules
  second_dice_chain = numbers 6 refl refl _ _ (λ e. let t = (unfair _).0 e in second_die t.0 t.1 t.2) end

  ballot_half_chain : (j : ℕ) → Rules (BallotHalf j) (ballot_half_rules p r drawn j)
  unfolding ballot_half_rules gives
  ballot_half_chain j =
      numbers 4 refl refl _ _ (λ e. half_ballot j ((unequal_iff _ _).0 e))
      (numbers 10 refl refl _ _ (λ e. let t = (too_large _ _ _).0 e in ballot_number j t.0 t.1 t.2)
      (numbers 11 refl refl _ _ (λ e. side j ((at_most_fails _ _).0 e))
      (numbers 12 refl refl _ _ (λ e. let t = (implies_fails _ _).0 e in side_drawn j t.0 ((unequal_iff _ _).0 t.1))
      (numbers 13 refl refl _ _ (λ e. let t = (every_fails _ _).0 e in ballot_opening j t.0 t.1 ((same_fails _ _).0 t.2)) end))))

  list_half_chain : (l j : ℕ) → Rules (ListHalf l j) (list_half_rules p r l j)
  unfolding list_half_rules gives
  list_half_chain l j =
      numbers 4 refl refl _ _ (λ e. half_list l j ((unequal_iff _ _).0 e))
      (numbers 4 refl refl _ _ (λ e. half_position l j ((unequal_iff _ _).0 e))
      (numbers 10 refl refl _ _ (λ e. let t = (too_large _ _ _).0 e in list_number l j t.0 t.1 t.2)
      (numbers 13 refl refl _ _ (λ e. let t = (every_fails _ _).0 e in list_opening l j t.0 t.1 ((same_fails _ _).0 t.2))
      (numbers 14 refl refl _ _ (λ e. ⊎_elim (λ t. first_halves l j t.0 t.1) (λ t. second_halves l j t.0 t.1) ((disagree _ _ _ _ _).0 e)) end))))

  vote_chain : (i : ℕ) → Rules (Vote i) (vote_rules p r i)
  unfolding vote_rules
  vote_chain i =
      numbers 4 refl refl _ _ (λ e. vote_index i ((unequal_iff _ _).0 e))
      (numbers 10 refl refl _ _ (λ e. vote i ((below_fails _ _).0 e)) (numbers 15 refl refl _ _ (λ e. let t = (or_fails _ _).0 e in fall i ((unequal_iff _ _).0 t.0) ((at_most_fails _ _).0 t.1)) end))
    where
      fall : (i : ℕ) → i ≢ 0 → vote_of p r i < vote_of p r (i - 1) → Broken copies drawn p r (Vote i) (numbered 15)
      fall zero ne h = absurd (ne refl)
      fall (suc i) ne h = falls i (simp unary_clauses at h)

  full_chain : (l i : ℕ) → Rules (FullOpening l i) (full_rules p r l i)
  unfolding full_rules gives
  full_chain l i =
      numbers 4 refl refl _ _ (λ e. full_list l i ((unequal_iff _ _).0 e))
      (numbers 4 refl refl _ _ (λ e. full_position l i ((unequal_iff _ _).0 e))
      (numbers 10 refl refl _ _ (λ e. let t = (too_large _ _ _).0 e in full_number l i t.0 t.1 t.2)
      (numbers 13 refl refl _ _ (λ e. let t = (every_fails _ _).0 e in full_opening l i t.0 t.1 ((same_fails _ _).0 t.2))
      (numbers 16 refl refl _ _ (λ e. let t = (implies_fails _ _).0 e in values l i ((equal_iff _ _).0 t.0) ((permutes_fails _ _ _).0 t.1)) end))))

  rules_chain : (d : Due) → Rules d (rules_with p r copies drawn d)
  rules_chain First = first_chain
  rules_chain (Ballot j) = ballot_chain j
  rules_chain (Entry l i) = entry_chain l i
  rules_chain FirstDice = first_dice_chain
  rules_chain (Link l j) = link_chain l j
  rules_chain SecondDice = second_dice_chain
  rules_chain (BallotHalf j) = ballot_half_chain j
  rules_chain (ListHalf l j) = list_half_chain l j
  rules_chain (Vote i) = vote_chain i
  rules_chain (FullOpening l i) = full_chain l i
  rules_chain End = end

  pub fault_chain : (d : Due) → Chain test_number test_rank (Broken copies drawn p r d) 0 (fault_with p r copies drawn d)
  unfolding fault_with
  fault_chain d =
      rule_chain test_number test_rank none_left _ _ refl refl (λ e. is_none_left d ((below_fails _ _).0 e))
      (rule_chain test_number test_rank not_due _ _ refl refl (λ e. is_not_due d ((unequal_iff _ _).0 e))
      (rule_chain test_number test_rank cut_short _ _ refl refl (λ e. is_cut_short d ((at_most_fails _ _).0 e)) (rules_chain d)))

  -- ---- and back

  -- behind the three tests of every command
  by_rule : {A B C D : Type 0} → D → A ⊎ (B ⊎ (C ⊎ D))
  by_rule h = inr (inr (inr h))

  fails : {d : Due} {u : Test} → Broken copies drawn p r d u → (fault_chain d).Fails u
  unfolding fault_chain rules_chain first_chain ballot_chain entry_chain first_dice_chain link_chain second_dice_chain ballot_half_chain list_half_chain vote_chain full_chain first_rules in_limits modulus_in_limits ballots_in_limits lists_in_limits right_shape gives
  fails (is_none_left d h) = inl (refl, (below_fails _ _).1 h)
  fails (is_not_due d h) = inr (inl (refl, (unequal_iff _ _).1 h))
  fails (is_cut_short d h) = inr (inr (inl (refl, (at_most_fails _ _).1 h)))
  fails (modulus h) = by_rule (inl (refl, (and_fails _ _).1 (inl ((outside _ _ _).1 h))))
  fails (ballots h) = by_rule (inl (refl, (and_fails _ _).1 (inr ((and_fails _ _).1 (inl ((outside _ _ _).1 h))))))
  fails (lists h) = by_rule (inl (refl, (and_fails _ _).1 (inr ((and_fails _ _).1 (inr ((outside _ _ _).1 h))))))
  fails (entry_list l i h) = by_rule (inl (refl, (unequal_iff _ _).1 h))
  fails (entry_position l i h) = by_rule (inr (inl (refl, (unequal_iff _ _).1 h)))
  fails (link_list l j h) = by_rule (inl (refl, (unequal_iff _ _).1 h))
  fails (link_ballot l j h) = by_rule (inr (inl (refl, (unequal_iff _ _).1 h)))
  fails (half_ballot j h) = by_rule (inl (refl, (unequal_iff _ _).1 h))
  fails (half_list l j h) = by_rule (inl (refl, (unequal_iff _ _).1 h))
  fails (half_position l j h) = by_rule (inr (inl (refl, (unequal_iff _ _).1 h)))
  fails (vote_index i h) = by_rule (inl (refl, (unequal_iff _ _).1 h))
  fails (full_list l i h) = by_rule (inl (refl, (unequal_iff _ _).1 h))
  fails (full_position l i h) = by_rule (inr (inl (refl, (unequal_iff _ _).1 h)))
  fails (id j h) = by_rule (inl (refl, (or_fails _ _).1 ((unequal_iff _ _).1 (λ z. omega arith), (below_fails _ _).1 (simp unary_clauses h))))
  fails (first_die i l h) = by_rule (inl (refl, (unfair _).1 (i, l, h)))
  fails (second_die i l h) = by_rule (inl (refl, (unfair _).1 (i, l, h)))
  fails (mask_ones h) = by_rule (inr (inl (refl, (and_fails _ _).1 (inl ((unequal_iff _ _).1 h)))))
  fails (mask_bits h) = by_rule (inr (inl (refl, (and_fails _ _).1 (inr ((below_fails _ _).1 h)))))
  fails (mask_drawn e h) = by_rule (inr (inr (inl (refl, (implies_fails _ _).1 (e, (unequal_iff _ _).1 h)))))
  fails (position l j h) = by_rule (inr (inr (inl (refl, (below_fails _ _).1 h))))
  fails (taken l j i k h) = by_rule (inr (inr (inr (inl (refl, (every_fails _ _).1 (i, k, (differ_fails _ _).1 h))))))
  fails (shift l j h) = by_rule (inr (inr (inr (inr (inl (refl, (below_fails _ _).1 h))))))
  fails (ballot_number j c l h) = by_rule (inr (inl (refl, (too_large _ _ _).1 (c, l, h))))
  fails (list_number l j c k h) = by_rule (inr (inr (inl (refl, (too_large _ _ _).1 (c, k, h)))))
  fails (vote i h) = by_rule (inr (inl (refl, (below_fails _ _).1 h)))
  fails (full_number l i q k h) = by_rule (inr (inr (inl (refl, (too_large _ _ _).1 (q, k, h)))))
  fails (side j h) = by_rule (inr (inr (inl (refl, (at_most_fails _ _).1 h))))
  fails (side_drawn j e h) = by_rule (inr (inr (inr (inl (refl, (implies_fails _ _).1 (e, (unequal_iff _ _).1 h))))))
  fails (ballot_opening j c l h) = by_rule (inr (inr (inr (inr (inl (refl, (every_fails _ _).1 (c, l, (same_fails _ _).1 h)))))))
  fails (list_opening l j c k h) = by_rule (inr (inr (inr (inl (refl, (every_fails _ _).1 (c, k, (same_fails _ _).1 h))))))
  fails (full_opening l i q k h) = by_rule (inr (inr (inr (inl (refl, (every_fails _ _).1 (q, k, (same_fails _ _).1 h))))))
  fails (first_halves l j e h) = by_rule (inr (inr (inr (inr (inl (refl, (disagree _ _ _ _ _).1 (inl (e, h))))))))
  fails (second_halves l j e h) = by_rule (inr (inr (inr (inr (inl (refl, (disagree _ _ _ _ _).1 (inr (e, h))))))))
  fails (falls i h) = by_rule (inr (inr (inl (refl, (or_fails _ _).1 ((unequal_iff _ _).1 (λ z. omega arith), (at_most_fails _ _).1 (simp unary_clauses h))))))
  fails (copied i j s u e l ls lu h) = by_rule (inr (inl (refl, (implies_fails _ _).1 (e, (unoriginal _ j).1 (i, s, u, l, ls, lu, h)))))
  fails (values l i e h) = by_rule (inr (inr (inr (inr (inl (refl, (implies_fails _ _).1 ((equal_iff _ _).1 e, (permutes_fails _ _ _).1 h)))))))

  -- ---- the first test that a command breaks

  -- a command breaks a test exactly if that test of its rules fails
  pub broken_iff : (d : Due) (u : Test) → Broken copies drawn p r d u ↔ (fault_chain d).Fails u
  broken_iff d u = (fails, (fault_chain d).says u)

  pub fault_firsts : (d : Due) → Firsts test_number test_rank (Broken copies drawn p r d) (fault_with p r copies drawn d)
  fault_firsts d = chain_firsts test_number test_rank (fault_chain d) (λ u. fails)
