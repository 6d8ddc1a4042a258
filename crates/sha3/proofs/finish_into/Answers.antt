-- What the four calls ensure, one in the other, is the digest.
use Rattle.sha3.specs.Sha3.{padded}
use Rattle.sha3.proofs.finish_into.Goals as goal

pub returns : goal.returns
unfolding padded
returns c = (cc, cc)
