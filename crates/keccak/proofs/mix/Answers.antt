-- Each parity, and each turned one, put into the definition.
use borrow.Author.Rules.{rules}
use Rattle.keccak.specs.Rows.{sides, flat, side_of, column_of}
use Rattle.keccak.proofs.mix.Goals as goal

pub returns : goal.returns
unfolding sides flat side_of column_of
returns c =
    let b = c in
    rw (
      c.turn-5.ensures,
      c.turn-4.ensures,
      c.turn-3.ensures,
      c.turn-2.ensures,
      c.turn.ensures,
      b.parity-c4.ensures,
      b.parity-c3.ensures,
      b.parity-c2.ensures,
      b.parity-c1.ensures,
      b.parity-c0.ensures,
    )
