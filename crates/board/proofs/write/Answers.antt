-- `board::write` meets its contract: the parameters, the ballots and the lists, one behind the other, fill the buffer.
use native.Mathlib.Omega.{arith}
use Rattle.laws.specs.Chunks.{chunks_even}
use Rattle.protocol.specs.Layout.{at_first_dice}
use Rattle.protocol.proofs.Widths.{length_first}
use Rattle.mixing.proofs.Agreement.{parameters_same}
use Rattle.board.proofs.Commands.{ballot_of, ballot_wide, part_written}
use Rattle.board.proofs.write.Goals as goal

pub put_first-first-requires : goal.put_first-first-requires
unfolding at_first_dice
put_first-first-requires c =
    let pre = rw (← c.s.view_is) at c.requires in
    (omega (arith, pre.0.tests.ballots_high), (omega (arith, pre.0.tests.compared_high), omega (arith, pre.1)))

pub put_ballots-next-requires : goal.put_ballots-next-requires
unfolding at_first_dice
put_ballots-next-requires c =
    let first = rw (parameters_same c.s.view_is) at c.put_first-first.ensures in
    (c.requires.0, omega (arith, c.requires.1, first.to, first.wrote.long, length_first c.args.s.now.parameters))

pub put_lists-requires : goal.put_lists-requires
unfolding at_first_dice
put_lists-requires c =
    let s = c.args.s.now in
    let first = rw (parameters_same c.s.view_is) at c.put_first-first.ensures in
    let ballots = c.put_ballots-next.ensures in (
      c.requires.0,
      omega (
        arith,
        c.requires.1,
        first.to,
        first.wrote.long,
        ballots.to,
        ballots.wrote.long,
        length_first s.parameters,
        chunks_even (ballot_of s) 197 s.parameters.ballots (λ j l. ballot_wide s j),
      ),
    )

pub returns : goal.returns
returns c = part_written c.args.s.now c.requires.1 (rw (parameters_same c.s.view_is) at c.put_first-first.ensures) c.put_ballots-next.ensures c.put_lists.ensures
