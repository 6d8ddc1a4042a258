-- `opening_rules::fill_values` meets its contract. The loop: what is passed is written.
use mathlib.Core.Path.{◌≡◌, refl, ◌∙◌}
use native.Mathlib.Omega.{arith}
use lib.ListN.{length}
use Rattle.laws.specs.Tables.{none_filled, one_filled, all_filled}
use Rattle.opening_rules.proofs.Numbers.{six_summed}
use Rattle.opening_rules.proofs.fill_values.Goals as goal

pub loop-i-init : goal.loop-i-init
loop-i-init c = none_filled _ _

pub sum-requires : goal.sum-requires
sum-requires c = (omega arith, omega arith, omega arith, c.requires.numbers c.loop-i.i (omega arith))

pub loop-i-preserved : goal.loop-i-preserved
loop-i-preserved c =
    one_filled _ c.loop-i.invariant (omega arith) (c.sum.ensures.0 ∙ six_summed _ _ (c.requires.numbers c.loop-i.i (omega arith)))

pub returns : goal.returns
returns c = let e : c.loop-i.i ≡ length c.args.out.now = omega arith in all_filled _ c.loop-i.invariant e refl
