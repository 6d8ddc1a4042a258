-- `limits::right_shape` meets its contract: the leading zeros bound the mask.
use Prim.Native.Nat.{◌-◌, ◌*◌, ◌^◌}
use native.Mathlib.Omega.{arith}
use lib.Count.{count_leading_zeros, ones-le, leading_le}
use lib.Dec.{leb}
use borrow.Author.Tests.{leb-true, le-leb}
use Rattle.std.proofs.lemmas.Grind.{common_steps}
use Rattle.laws.specs.Tests.{equal, ◌and◌, below, is_equal, is_below, below_iff, by_iff, and_go}
use Rattle.protocol.specs.Rules.{right_shape}
use Rattle.limits.proofs.Lengths.{short}
use Rattle.limits.proofs.right_shape.Goals as goal

pub overflow_cast-mask : goal.overflow_cast-mask
overflow_cast-mask c = omega (arith, ones-le 32 c.args.mask c.ranges.mask.fits)

pub overflow_cast-result : goal.overflow_cast-result
overflow_cast-result c = omega (arith, leading_le 32 c.args.mask)

pub overflow_sub-result : goal.overflow_sub-result
overflow_sub-result c = leading_le 32 c.args.mask

pub returns-then-mask-compared : goal.returns-then-mask-compared
unfolding right_shape
returns-then-mask-compared c =
    let m = c.args.compared in
    let mask = c.args.mask in
    let s = short 32 mask (2 * m) c.ranges.mask.fits in
    and_go _ _ (is_equal (omega arith))
    (by_iff (leb (32 - count_leading_zeros 32 mask) (2 * m)) (below mask (2 ^ (2 * m)))
    (λ e. is_below (s.0 (leb-true _ _ e)))
    (λ e. le-leb _ _ (s.1 ((below_iff _ _).0 e))))

pub returns-else-mask-compared : goal.returns-else-mask-compared
unfolding right_shape equal ◌and◌
returns-else-mask-compared c = grind (arith, common_steps)
