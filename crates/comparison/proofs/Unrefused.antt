-- What the entries may write once their tests have answered 0, and how a draw ends.
use mathlib.Core.Path.{◌≡◌, sym}
use mathlib.Core.Bool.{true}
use mathlib.Core.List.{List}
use Prim.Native.Nat.{ℕ, ◌≤◌}
use lib.ListN.{length}
use Rattle.laws.specs.Faults.{rules}
use Rattle.protocol.specs.declared.Parameters.{Parameters}
use Rattle.protocol.specs.Terms.{modulus_in_limits, ballots_in_limits, lists_in_limits, in_limits}
use Rattle.protocol.specs.Layout.{part_two_length}
use Rattle.protocol.specs.Rules.{right_shape}
use Rattle.protocol.specs.Drawing.{drawn_mask}
use Rattle.protocol.specs.Inputs.{Slices}
use Rattle.protocol.specs.Refusals.{part_two_refusal, part_two_drawn_refusal}
use Rattle.protocol.specs.Results.{draw_refusal}
use Rattle.protocol.proofs.Unrefused.{unrefused}
use Rattle.protocol.proofs.Drawing.{drawn_mask_lem}
use Rattle.mixing.specs.Passed.{Passed}

-- the mask given
pub mask_given : (s : Slices) (dice : List ℕ) (mask out_long : ℕ) → 0 ≡ part_two_refusal s dice mask out_long
    → Passed s × ((length dice ≡ 30) × ((right_shape s.parameters.compared mask ≡ true) × (out_long ≡ part_two_length s.parameters)))
unfolding part_two_refusal
mask_given s dice mask out_long e =
    let u = unrefused s _ _ _ _ (sym e) in
    let long = simp rules at u.lengths_due in
    (record { lengths = _; fair = _; shape = _; binary = _; tests = u }, (long.0, (u.right_shape, long.1)))

-- the mask drawn: whatever it is drawn from, it has the right shape
pub mask_drawn : (s : Slices) (dice : List ℕ) (mask one_long out_long : ℕ) (q : List ℕ) → 0 ≡ part_two_drawn_refusal s dice one_long out_long
    → mask ≡ drawn_mask s.parameters.compared q
    → Passed s × ((length dice ≡ 30) × ((right_shape s.parameters.compared mask ≡ true) × (out_long ≡ part_two_length s.parameters)))
unfolding part_two_drawn_refusal
mask_drawn s dice mask one_long out_long q e h =
    let u = unrefused s _ _ _ _ (sym e) in
    let long = simp rules at u.lengths_due in
    (record { lengths = _; fair = _; shape = _; binary = _; tests = u }, (long.0, (rw h (drawn_mask_lem s.parameters.compared q), long.1.1)))

-- a draw alone
pub draw_ready : (p : Parameters) (dice : List ℕ) (one_long : ℕ) → 0 ≡ draw_refusal p dice one_long → (p.compared ≤ 12) × (length dice ≡ 30)
unfolding draw_refusal in_limits modulus_in_limits ballots_in_limits lists_in_limits
draw_ready p dice one_long e =
    let (limits, (long, fair)) = simp rules at (sym e) in
    (limits.1.1.1, long.0)
