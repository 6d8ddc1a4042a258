-- Refusals step by step: the limits, the lengths, and what is tested behind them.
use mathlib.Core.Path.{◌≡◌, refl, sym, ap, ◌∙◌}
use mathlib.Core.Bool.{Bool, true, false}
use mathlib.Core.List.{List}
use Prim.Native.Nat.{ℕ, ◌*◌, ◌≤◌, ◌<◌}
use native.Mathlib.Omega.{arith}
use lib.Dec.{eqb}
use lib.ListN.{length}
use lib.Seq.{take_all}
use Rattle.laws.specs.Tests.{equal, ◌and◌, equal_iff, and_iff, and_last, and_last_stop, equal_is}
use Rattle.laws.specs.Faults.{rule, rule_go, rule_stop, rules}
use Rattle.laws.specs.Chunks.{piece}
use Rattle.protocol.specs.declared.Parameters.{Parameters}
use Rattle.protocol.specs.Terms.{modulus_in_limits, ballots_in_limits, lists_in_limits, in_limits, all_below}
use Rattle.protocol.specs.Rules.{fair_dice}
use Rattle.protocol.specs.Inputs.{Slices}
use Rattle.protocol.specs.Refusals.{due_lengths, binary_sides, refusal}
use Rattle.protocol.specs.Election.{Choice, chosen, drawn, sides_due, sides_binary}
use Rattle.protocol.proofs.Unrefused.{tests}
use Rattle.layout.specs.Bounds.{Few}
use Rattle.mixing.specs.Followed.{Votes, Numbers}
use Rattle.refusals.specs.Contents.{binary, binary_where, contents_refusal, refusal_is}

pub limits_few : (p : Parameters) → in_limits p ≡ true → Few p
unfolding in_limits modulus_in_limits ballots_in_limits lists_in_limits
limits_few p e = let h = simp rules at e in record { ballots = h.1.0.1; compared = h.1.1.1 }

pub limits_known : (p : Parameters) → in_limits p ≡ true → Few p × (0 < p.modulus)
unfolding in_limits modulus_in_limits ballots_in_limits lists_in_limits
limits_known p e = let h = simp rules at e in (limits_few p e, omega (arith, h.0.0))

-- ---- a row of tests as code makes them, one joined to those before it

pub and_assoc : (a b c : Bool) → ((a and b) and c) ≡ (a and (b and c))
unfolding ◌and◌
and_assoc true b c = refl
and_assoc false b c = refl

-- ---- lengths as code compares them

pub long : (a : ℕ) {b c : ℕ} → b ≡ c → eqb a b ≡ equal a c
long a e = ap (eqb a) e ∙ equal_is a _

pub pair : {r a b c d : Bool} → r ≡ (a and b) → a ≡ c → b ≡ d → r ≡ (c and d)
pair e f g = cc

-- the first of all lengths is that of 30 dice
pub thirty : (dice : List ℕ) (rest : Bool) → (equal (length dice) 30 and rest) ≡ true → length dice ≡ 30
thirty dice rest e = (equal_iff _ _).0 ((and_iff _ _).0 e).0

-- where the slices have their due lengths, two of them
pub lengths_are : (s : Slices) → due_lengths s ≡ true → (length s.ids ≡ s.parameters.ballots) × (length s.permutations ≡ 6 * (s.parameters.compared * s.parameters.ballots))
unfolding due_lengths
lengths_are s e = let h = simp rules at e in (h.0, h.1.1.1.0)

-- what rule 21 asks of the slices that have passed the other tests
pub before_copies : (s : Slices) → Few s.parameters → 0 < s.parameters.modulus → due_lengths s ≡ true
    → (all_below s.parameters.modulus s.votes and all_below s.parameters.modulus s.numbers) ≡ true
    → Votes s × (Numbers s × ((length s.ids ≡ s.parameters.ballots) × (192 * s.parameters.ballots ≤ length s.keys)))
unfolding due_lengths
before_copies s few positive e small =
    let h = simp rules at e in
    let b = simp tests at small in (
      record { long = h.1.0; small = b.0 },
      (record { few = few.ballots; positive = positive; long = h.1.1.0; small = b.1 }, (h.0, omega (arith, h.1.1.1.1))),
    )

-- ---- a refusal in steps

module _ (s : Slices) (lengths fair shape binary : Bool) where
  pub outside : in_limits s.parameters ≡ false → 3 ≡ refusal s lengths fair shape binary
  outside e = rule_stop _ _ _ e ∙ sym (refusal_is s lengths fair shape binary)

  pub undue : in_limits s.parameters ≡ true → lengths ≡ false → 18 ≡ refusal s lengths fair shape binary
  undue limits e = rule_go _ _ _ limits (rule_stop _ _ _ (sym (and_last_stop _ _ e))) ∙ sym (refusal_is s lengths fair shape binary)

  -- the answers that are handed over are those of the tests
  pub due : {k : ℕ} {f h b : Bool} → in_limits s.parameters ≡ true → lengths ≡ true → f ≡ fair → h ≡ shape → b ≡ binary
      → k ≡ rule 18 (due_lengths s) (contents_refusal s f h b) → k ≡ refusal s lengths fair shape binary
  due {k} limits e ef eh eb said =
      let answered : k ≡ rule 18 (due_lengths s) (contents_refusal s fair shape binary) = rw (ef, eh, eb) at said in
      rule_go _ _ _ limits
      (rw e (answered ∙ ap (λ (t : Bool). rule 18 t (contents_refusal s fair shape binary)) (and_last (due_lengths s) true refl)))
      ∙ sym (refusal_is s lengths fair shape binary)

-- ---- dice and sides

-- dice that are a whole slice
pub fair_whole : (dice : List ℕ) → length dice ≡ 30 → fair_dice (piece dice 0 30) ≡ fair_dice dice
fair_whole dice is30 = ap fair_dice (take_all 30 dice (omega arith))

pub binary_is : (s : Slices) (sides : List ℕ) → length sides ≡ s.parameters.ballots → binary sides ≡ binary_sides s sides
unfolding binary binary_sides
binary_is s sides each = rw each

pub binary_where_lem : (s : Slices) (by_sides : Choice (List ℕ)) → sides_due s.parameters by_sides ≡ true → binary_where by_sides ≡ sides_binary s by_sides
unfolding binary_where sides_binary sides_due
binary_where_lem s (chosen sides) e = binary_is s sides ((equal_iff _ _).0 e)
binary_where_lem s drawn e = refl
