-- `tablet::put_receipt` meets its contract: the id, and the hash behind it.
use mathlib.Core.Path.{ap, ◌∙◌}
use native.Mathlib.Omega.{arith}
use lib.ListN.{length, length-append}
use Rattle.laws.specs.Bytes.{bytes, length_bytes}
use Rattle.laws.specs.Writing.{go_on, go_same, whole}
use Rattle.sha3.specs.Sha3.{sha3_224}
use Rattle.sha3.proofs.Digest.{sha3_224_length}
use Rattle.protocol.specs.Tablet.{receipt}
use Rattle.tablet.proofs.put_receipt.Goals as goal

pub slice_bounds-copy-end : goal.slice_bounds-copy-end
slice_bounds-copy-end c = omega (arith, ap length c.sha3_224.ensures ∙ sha3_224_length _)

pub copy-requires : goal.copy-requires
copy-requires c = omega (arith, ap length c.sha3_224.ensures ∙ sha3_224_length _, length_bytes 4 c.args.id)

pub returns : goal.returns
unfolding receipt
returns c =
    let id = c.args.id in
    let hash = sha3_224 c.args.command.now in
    whole (go_on c.put4-next.ensures (go_same c.copy.ensures c.sha3_224.ensures)).wrote
    (omega (arith, length-append (bytes 4 id) hash, length_bytes 4 id, sha3_224_length c.args.command.now))
