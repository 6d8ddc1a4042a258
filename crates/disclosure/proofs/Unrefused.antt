-- What the entries may write once their tests have refused nothing.
use mathlib.Core.Path.{◌≡◌, sym, ap, ◌∙◌}
use mathlib.Core.List.{List}
use Prim.Native.Nat.{ℕ}
use lib.ListN.{length}
use Rattle.laws.specs.Faults.{rules}
use Rattle.protocol.specs.Drawing.{drawn_sides}
use Rattle.protocol.specs.Inputs.{Slices}
use Rattle.protocol.specs.Refusals.{part_three_refusal, part_three_drawn_refusal}
use Rattle.protocol.proofs.Unrefused.{unrefused}
use Rattle.protocol.proofs.Drawing.{length_drawn, drawn_sides_lem}
use Rattle.disclosure.specs.Disclosed.{Drawable, Writable}

-- the sides given
pub sides_given : (s : Slices) (dice : List ℕ) (mask : ℕ) (sides : List ℕ) (out_long : ℕ) → 0 ≡ part_three_refusal s dice mask sides out_long
    → Writable s dice mask sides out_long
unfolding part_three_refusal
sides_given s dice mask sides out_long e =
    let u = unrefused s _ _ _ _ (sym e) in
    let long = simp rules at u.lengths_due in
    record {
      passed = record { lengths = _; fair = _; shape = _; binary = _; tests = u };
      dice_long = long.0;
      shape = u.right_shape;
      sides_long = long.1.0;
      binary = u.binary_sides;
      out_long = long.1.1;
    }

-- the sides to be drawn
pub sides_drawn : (s : Slices) (dice : List ℕ) (mask one_long two_long out_long : ℕ) → 0 ≡ part_three_drawn_refusal s dice mask one_long two_long out_long
    → Drawable s dice mask out_long
unfolding part_three_drawn_refusal
sides_drawn s dice mask one_long two_long out_long e =
    let u = unrefused s _ _ _ _ (sym e) in
    let long = simp rules at u.lengths_due in
    record {
      passed = record { lengths = _; fair = _; shape = _; binary = _; tests = u };
      dice_long = long.0;
      shape = u.right_shape;
      out_long = long.1.1.1;
    }

-- .. and drawn, whatever they are drawn from: there is one for each ballot
pub drawn : (s : Slices) (dice : List ℕ) (mask : ℕ) (sides : List ℕ) (out_long : ℕ) (q : List ℕ) → Drawable s dice mask out_long → sides ≡ drawn_sides s.parameters.ballots q
    → Writable s dice mask sides out_long
drawn s dice mask sides out_long q d h =
    record {
      passed = d.passed;
      dice_long = d.dice_long;
      shape = d.shape;
      sides_long = ap length h ∙ length_drawn s.parameters.ballots q;
      binary = rw h (drawn_sides_lem s q);
      out_long = d.out_long;
    }
