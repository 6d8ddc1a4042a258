-- What a range answers of a number, as the definitions' tests.
use Rattle.std.proofs.Common.{◌≡◌, refl, ◌∙◌, ap₂, Bool, true, false, ◌&&◌, ℕ, arith}
use Rattle.std.proofs.lemmas.Bool.Decides.{nat_tests}
use Rattle.std.specs.Prelude.{Some}
use Rattle.std.specs.Ordering.{nat_cmp, is_le, is_lt}
use Rattle.std.specs.declared.ops.RangeInclusive.{RangeInclusive}
use Rattle.std.specs.Range.{range_inclusive_contains, range_inclusive_start, range_inclusive_end, range_inclusive_exhausted}
use Rattle.laws.specs.Tests.{at_most, below, ◌and◌}

most_is : (a b : ℕ) → is_le (nat_cmp a b) ≡ at_most a b
unfolding at_most
most_is a b = grind (arith, nat_tests)

below_is : (a b : ℕ) → is_lt (nat_cmp a b) ≡ below a b
unfolding below
below_is a b = grind (arith, nat_tests)

and_is : (x y : Bool) → (x && y) ≡ (x and y)
unfolding ◌and◌
and_is true y = refl
and_is false y = refl

-- a..b
pub in_range : (a b x : ℕ) {r : Bool} → r ≡ (is_le (nat_cmp a x) && is_lt (nat_cmp x b)) → r ≡ (at_most a x and below x b)
in_range a b x e = e ∙ and_is _ _ ∙ ap₂ (λ (u v : Bool). u and v) (most_is a x) (below_is x b)

-- a..=b
pub in_closed : {s : RangeInclusive ℕ} {a b : ℕ} (x : ℕ) {r : Bool} → r ≡ range_inclusive_contains (λ (x y : ℕ). Some (nat_cmp x y)) s x
    → range_inclusive_start s ≡ a → range_inclusive_end s ≡ b → range_inclusive_exhausted s ≡ false → r ≡ (at_most a x and at_most x b)
in_closed {s} {a} {b} x e start end fresh = rw (start, end, fresh) at e ∙ and_is _ _ ∙ ap₂ (λ (u v : Bool). u and v) (most_is a x) (most_is x b)
