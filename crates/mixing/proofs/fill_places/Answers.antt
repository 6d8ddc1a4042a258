-- `mixing::fill_places` meets its contract: the first i places are written, each at the ballot that it holds.
use native.Mathlib.Omega.{arith}
use Rattle.protocol.specs.Inputs.{inputs_of}
use Rattle.protocol.specs.Servers.{link_position}
use Rattle.mixing.proofs.Agreement.{ballots_same}
use Rattle.mixing.proofs.Following.{source_perm, one_placed, all_placed}
use Rattle.mixing.proofs.fill_places.Goals as goal

pub loop-i-preserved : goal.loop-i-preserved
loop-i-preserved c =
    let at = c.loop-i in
    one_placed _ _ (source_perm c.requires.0 c.requires.1.0.list) at.out at.i c.source-j.result (omega (arith, ballots_same c.s.view_is)) (omega arith) c.source-j.ensures.0 at.invariant

pub returns : goal.returns
unfolding link_position inputs_of
returns c =
    let at = c.loop-i in
    (omega arith, all_placed _ _ (source_perm c.requires.0 c.requires.1.0.list) at.out at.i (omega (arith, ballots_same c.s.view_is)) at.invariant)
