-- `runoff::page::put_rounds` meets its contract: the lines of n rounds are written, and with those still to come they are the whole.
use native.Mathlib.Omega.{arith}
use Rattle.runoff.proofs.RoundLines.{next_few, none_lined, one_lined, over_lined, all_lined}
use Rattle.runoff.proofs.page.put_rounds.Goals as goal

pub loop-n-init : goal.loop-n-init
loop-n-init c = none_lined _ _ _ _ c.start-s.ensures (omega (arith, c.requires.room))

pub returns-then-s : goal.returns-then-s
returns-then-s c =
    over_lined _ _ c.loop-n.invariant c.if-s.true c.put_winner.ensures

-- ---- a turn

pub put_round-to-requires : goal.put_round-to-requires
put_round-to-requires c =
    let h = c.loop-n.invariant in (
      record {
        few = c.requires.few;
        small = λ i l. omega (arith, c.requires.small, next_few _ _ _ c.next-s.ensures h.few i l);
      },
      omega (arith, c.requires.few, c.requires.room, h.short, h.went.to, h.went.wrote.long),
    )

pub loop-n-preserved : goal.loop-n-preserved
loop-n-preserved c =
    one_lined _ _ c.requires.few c.loop-n.invariant (omega arith) c.if-s.false c.next-s.ensures c.put_round-to.ensures

-- ---- the end

pub returns : goal.returns
returns c =
    all_lined _ _ c.loop-n.invariant (omega (arith, c.loop-n.invariant.within)) c.put_winner-2.ensures
