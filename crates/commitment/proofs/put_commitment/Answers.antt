-- `commitment::put_commitment` meets its contract: the digest that is written is that of the key and what is behind it.
use native.Mathlib.Omega.{arith}
use Rattle.laws.specs.Writing.{same}
use Rattle.protocol.specs.Terms.{opening}
use Rattle.protocol.proofs.Honesty.{length_commitment}
use Rattle.commitment.proofs.Hashed.{committed}
use Rattle.commitment.proofs.put_commitment.Goals as goal

pub returns : goal.returns
returns c =
    let is = committed c.args.p c.args.place c.args.key.now c.args.x c.requires.0 c.keyed_row-row.ensures c.tail_of-t.ensures in
    let long = length_commitment c.args.p c.args.place (opening c.args.key.now c.args.x) in
    record { wrote = same c.put_digest.ensures is; to = omega (arith, long) }
