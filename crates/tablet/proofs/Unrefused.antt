-- The six tests of a vote's numbers, and what is not refused.
use mathlib.Core.Path.{◌≡◌, refl, sym}
use mathlib.Core.Bool.{Bool, true, false}
use mathlib.Core.List.{[], ◌∷◌}
use Prim.Native.Nat.{ℕ}
use Rattle.laws.specs.Tests.{below, ◌and◌, every}
use Rattle.laws.specs.Faults.{rules}
use Rattle.protocol.specs.Terms.{all_below}
use Rattle.protocol.specs.Tablet.{tablet_refusal}
use Rattle.tablet.specs.Ready.{CastReady}

true_and : (a : Bool) → (true and a) ≡ a
unfolding ◌and◌
true_and a = refl

and_assoc : (a b c : Bool) → ((a and b) and c) ≡ (a and (b and c))
unfolding ◌and◌
and_assoc true b c = refl
and_assoc false b c = refl

pub six_below : (M a b c d e f : ℕ) → all_below M (a ∷ b ∷ c ∷ d ∷ e ∷ f ∷ []) ≡ (below a M and below b M and below c M and below d M and below e M and below f M)
unfolding all_below every
six_below M a b c d e f = simp (true_and, and_assoc)

pub cast_ready : (M w x y u1 u2 u3 keys_long command_long receipt_long : ℕ) → 0 ≡ tablet_refusal M w x y u1 u2 u3 keys_long command_long receipt_long
    → CastReady M w x y u1 u2 u3 keys_long command_long × (receipt_long ≡ 32)
unfolding tablet_refusal
cast_ready M w x y u1 u2 u3 keys_long command_long receipt_long e =
    let (limits, (long, (small, rest))) = simp rules at (sym e) in (
      record {
        vote_below = small.0;
        x_below = small.1.0;
        y_below = small.1.1.0;
        u1_below = small.1.1.1.0;
        u2_below = small.1.1.1.1.0;
        u3_below = small.1.1.1.1.1;
        keys_long = long.0;
        command_long = long.1.0;
      },
      long.1.1,
    )
