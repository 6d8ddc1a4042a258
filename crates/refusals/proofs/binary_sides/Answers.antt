-- `refusals::binary_sides` meets its contract: what `all` tests of each side.
use Prim.Native.Nat.{◌≤◌, ◌<◌}
use Rattle.std.proofs.Common.{rules, tests}
use Rattle.std.proofs.lemmas.Iterator.{cases_from_all, YieldsList-from_slice}
use Rattle.refusals.proofs.Contents.{binary_lem}
use Rattle.refusals.proofs.binary_sides.Goals as goal

pub returns : goal.returns
returns c =
    binary_lem _ _
    (cases_from_all _ _ _ (λ x. x ≤ 1) (λ x. 1 < x) c.all.ensures.ran (YieldsList-from_slice c.args.sides.now cc) (λ x q k. search (rules, tests))
    (λ x q k. search (rules, tests)))
