-- The digest at the rate 144, as long as the buffer, which has 28 bytes.
use mathlib.Core.List.{◌++◌}
use borrow.Author.Rules.{rules}
use Rattle.sha3.specs.Sha3.{sha3_224}
use Rattle.sha3.proofs.Digest.{digest_sized}
use Rattle.paddockyear.proofs.paddockyear_sha3_224_parts.Goals as goal

pub returns : goal.returns
unfolding sha3_224
returns c =
    let args = c.args in
    digest_sized 144 (args.a.now ++ (args.b.now ++ args.c.now)) c.hash_parts.ensures (search rules)
