-- `opening_rules::numbers_below` meets its contract. The loop: the numbers passed are below the modulus.
use mathlib.Core.Path.{◌≡◌, refl, sym}
use native.Mathlib.Omega.{arith}
use Rattle.laws.specs.Tests.{every, every_more, every_stop, is_below, not_below}
use Rattle.protocol.specs.Rules.{numbers_below}
use Rattle.opening_rules.proofs.numbers_below.Invariants.{small}
use Rattle.opening_rules.proofs.numbers_below.Goals as goal

pub loop-i-init : goal.loop-i-init
unfolding every
loop-i-init c = refl

pub returns-then-modulus-number_at : goal.returns-then-modulus-number_at
unfolding numbers_below
returns-then-modulus-number_at c = every_stop (small c.args.modulus c.args.bytes.now c.args.at) c.args.k c.loop-i.i (omega arith) (not_below (omega arith))

pub loop-i-preserved : goal.loop-i-preserved
loop-i-preserved c = every_more (small c.args.modulus c.args.bytes.now c.args.at) c.loop-i.i c.loop-i.invariant (is_below (omega arith))

pub returns : goal.returns
unfolding numbers_below
returns c = let e : c.loop-i.i ≡ c.args.k = omega arith in sym (rw e at c.loop-i.invariant)
