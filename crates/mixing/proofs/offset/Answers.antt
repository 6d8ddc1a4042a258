-- `mixing::offset` meets its contract: what is read is the column's.
use Prim.Native.Nat.{◌*◌}
use native.Mathlib.Omega.{arith}
use Rattle.laws.specs.Writing.{row_within}
use Rattle.mixing.proofs.Agreement.{ballots_same}
use Rattle.mixing.proofs.Following.{offset_is}
use Rattle.mixing.proofs.offset.Goals as goal

pub returns : goal.returns
returns c =
    let a = c.args in (
      rw (c.list_numbers.ensures.0, ← c.s.view_is) (offset_is _ a.l a.c a.k a.i c.requires.1.1.1.0),
      c.list_numbers.ensures.1.1 _ (omega (arith, row_within a.c 3 (2 * c.s.inside.parameters.ballots) c.requires.1.1.0, ballots_same c.s.view_is)),
    )
