-- Four lanes, each written behind the one before it, are the digest.
use native.Mathlib.Omega.{arith}
use Rattle.sha3.proofs.Lanes.{digest_wrote}
use Rattle.sha3.proofs.put_digest.Goals as goal

pub returns : goal.returns
returns c =
    let a = c.args in
    digest_wrote a.row a.out.now c.put_lane.new.out c.put_lane-2.new.out c.put_lane-3.new.out c.put_lane-4.new.out a.at (omega arith)
    c.put_lane.ensures c.put_lane-2.ensures c.put_lane-3.ensures c.put_lane-4.ensures
