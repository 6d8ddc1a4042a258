-- `tablet::refuse` meets its contract, one rule after the other.
use Rattle.std.proofs.Common.{arith}
use Rattle.std.proofs.lemmas.Grind.{common_steps}
use Rattle.laws.specs.Tests.{equal, ◌and◌}
use Rattle.laws.specs.Faults.{rule}
use Rattle.protocol.specs.Tablet.{tablet_refusal}
use Rattle.tablet.proofs.Unrefused.{six_below}
use Rattle.tablet.proofs.refuse.Goals as goal

pub returns-then-not-modulus_in_limits : goal.returns-then-not-modulus_in_limits
unfolding tablet_refusal rule ◌and◌ equal
returns-then-not-modulus_in_limits c = grind (arith, common_steps)

pub returns-then-keys_len-ne192 : goal.returns-then-keys_len-ne192
unfolding tablet_refusal rule ◌and◌ equal
returns-then-keys_len-ne192 c = grind (arith, common_steps)

pub returns-then-not-all_below : goal.returns-then-not-all_below
unfolding tablet_refusal rule ◌and◌ equal
returns-then-not-all_below c =
    let s = c.args.cut in
    grind (arith, common_steps, six_below c.args.modulus s.vote s.x s.y s.u1 s.u2 s.u3)

pub returns : goal.returns
unfolding tablet_refusal rule ◌and◌ equal
returns c =
    let s = c.args.cut in
    grind (arith, common_steps, six_below c.args.modulus s.vote s.x s.y s.u1 s.u2 s.u3)
