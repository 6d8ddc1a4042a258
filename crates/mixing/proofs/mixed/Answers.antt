-- `mixing::mixed` meets its contract: the entry is followed, and the offsets met are added.
use Rattle.mixing.proofs.Agreement.{modulus_same}
use Rattle.mixing.proofs.Following.{mixed_is}
use Rattle.mixing.proofs.mixed.Goals as goal

pub returns : goal.returns
returns c = (
  mixed_is _ _ _ _ (modulus_same c.s.view_is)
      c.from-third.ensures.0 c.from-second.ensures.0 c.from-ballot.ensures.0 c.ballot_share-none.ensures.0 c.offset.ensures.0
      c.plus-one.ensures.0 c.offset-2.ensures.0 c.plus-two.ensures.0 c.offset-3.ensures.0 c.plus.ensures.0,
  rw (← c.s.view_is) c.plus.ensures.1,
)
