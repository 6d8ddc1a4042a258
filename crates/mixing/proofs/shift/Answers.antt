-- `mixing::shift` meets its contract: the sums of two rows of three.
use Rattle.mixing.proofs.Agreement.{modulus_same}
use Rattle.mixing.proofs.Following.{shift_is}
use Rattle.mixing.proofs.shift.Goals as goal

pub returns : goal.returns
returns c =
    let a = c.args in (
      shift_is a.s.now a.l a.j a.i _ _ (modulus_same c.s.view_is) c.ballot_halves.ensures c.entry_halves.ensures c.sum-ballot.ensures.0
          c.sum-entry.ensures.0 c.minus.ensures.0,
      rw (← c.s.view_is) c.minus.ensures.1,
    )
