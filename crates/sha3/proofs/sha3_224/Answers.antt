-- The digest at the rate 144, as long as the buffer, which has 28 bytes.
use borrow.Author.Rules.{rules}
use Rattle.sha3.specs.Sha3.{sha3_224}
use Rattle.sha3.proofs.Digest.{digest_sized}
use Rattle.sha3.proofs.sha3_224.Goals as goal

pub returns : goal.returns
unfolding sha3_224
returns c = digest_sized 144 c.args.m.now c.hash.ensures (search rules)
