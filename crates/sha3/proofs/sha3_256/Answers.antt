-- The digest at the rate 136, as long as the buffer, which has 32 bytes.
use borrow.Author.Rules.{rules}
use Rattle.sha3.specs.Sha3.{sha3_256}
use Rattle.sha3.proofs.Digest.{digest_sized}
use Rattle.sha3.proofs.sha3_256.Goals as goal

pub returns : goal.returns
unfolding sha3_256
returns c = digest_sized 136 c.args.m.now c.hash.ensures (search rules)
