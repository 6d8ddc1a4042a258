-- `mixing::ballot` meets its contract.
use Rattle.protocol.specs.Inputs.{inputs_of}
use Rattle.protocol.specs.Servers.{ballot_row, ballot_number}
use Rattle.mixing.proofs.Agreement.{modulus_same}
use Rattle.mixing.proofs.Following.{parts_below, split_is}
use Rattle.mixing.proofs.ballot.Goals as goal

pub split-requires : goal.split-requires
split-requires c =
    parts_below _ _ _ _ _ (modulus_same c.s.view_is) c.ballot_share-x.ensures.1 c.ballot_share-y.ensures.1 c.ballot_share-z.ensures.1
    c.ballot_halves.ensures

pub returns : goal.returns
unfolding ballot_number inputs_of
returns c =
    split_is _ _ _ _ _ (λ k. ballot_row (inputs_of c.args.s.now) k c.args.j) _ (modulus_same c.s.view_is)
    c.ballot_share-x.ensures.0 c.ballot_share-y.ensures.0 c.ballot_share-z.ensures.0 c.ballot_halves.ensures c.split.ensures
