-- `limits::all_below` meets its contract. The loop: `all` says whether the numbers passed are below the limit.
use mathlib.Core.Path.{◌≡◌, refl}
use native.Mathlib.Omega.{arith}
use lib.ListN.{length}
use Rattle.laws.specs.Tests.{below, every, every_turn}
use Rattle.protocol.specs.Terms.{all_below}
use Rattle.limits.proofs.all_below.Goals as goal

pub loop-x-init : goal.loop-x-init
unfolding every
loop-x-init c = refl

pub loop-x-preserved : goal.loop-x-preserved
unfolding below
loop-x-preserved c = every_turn _ _ c.loop-x.invariant

pub returns : goal.returns
unfolding all_below
returns c =
    let e : c.loop-x.x-index ≡ length c.args.numbers.now = omega arith in
    rw e at c.loop-x.invariant
