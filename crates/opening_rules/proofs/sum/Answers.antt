-- `opening_rules::sum` meets its contract. The loop: the numbers passed are summed.
use mathlib.Core.Path.{refl}
use native.Mathlib.Omega.{arith}
use Rattle.opening_rules.specs.Opened.{sum_of}
use Rattle.opening_rules.proofs.Numbers.{opened_below, one_more}
use Rattle.opening_rules.proofs.sum.Goals as goal

pub loop-i-init : goal.loop-i-init
unfolding sum_of
loop-i-init c = (refl, omega (arith, opened_below c.args.modulus _ c.args.k c.requires.3 0 (omega arith)))

pub plus-sum-requires : goal.plus-sum-requires
plus-sum-requires c = (omega arith, omega (arith, opened_below c.args.modulus _ c.args.k c.requires.3 c.loop-i.i (omega arith)))

pub loop-i-preserved : goal.loop-i-preserved
loop-i-preserved c = (one_more _ _ c.loop-i.i c.plus-sum.ensures.0 c.loop-i.invariant.0 c.number_at.ensures.0, c.plus-sum.ensures.1)
