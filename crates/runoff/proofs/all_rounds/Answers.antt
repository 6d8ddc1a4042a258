-- `runoff::all_rounds` meets its contract: the rounds that are left give what all of them give.
use native.Mathlib.Omega.{arith}
use Rattle.runoff.proofs.Onward.{started, one_on, over_on, end_on}
use Rattle.runoff.proofs.all_rounds.Goals as goal

pub loop-n-init : goal.loop-n-init
loop-n-init c = started _ _ c.start-s.ensures

pub returns-then-s : goal.returns-then-s
returns-then-s c = over_on _ _ _ _ c.if-s.true c.loop-n.invariant.1

pub loop-n-preserved : goal.loop-n-preserved
loop-n-preserved c =
    let (counted, goes) = c.loop-n.invariant in
    one_on _ _ _ _ (omega arith) c.if-s.false counted goes c.next-s.ensures

pub returns : goal.returns
returns c = end_on _ _ _ _ (omega arith) c.loop-n.invariant.1
