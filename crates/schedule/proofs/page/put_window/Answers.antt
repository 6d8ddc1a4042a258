-- `schedule::page::put_window` meets its contract: the word, the start, a tab, the end and the line's end, one behind the other.
use native.Mathlib.Omega.{arith}
use Rattle.laws.specs.Bytes.{bytes, length_bytes}
use Rattle.laws.specs.Writing.{go_on}
use Rattle.schedule.specs.Page.{window_line}
use Rattle.schedule.proofs.Paging.{start_length, end_length}
use Rattle.schedule.proofs.page.put_window.Goals as goal

pub put1-tab-requires : goal.put1-tab-requires
put1-tab-requires c =
    omega (arith, start_length c.args.w.start)

pub put_end-end-requires : goal.put_end-end-requires
put_end-end-requires c =
    record {
      low = c.requires.small.low;
      high = c.requires.small.high;
      room =
          omega (
            arith,
            start_length c.args.w.start,
            length_bytes 1 9,
          );
    }

pub put1-requires : goal.put1-requires
put1-requires c =
    omega (arith, start_length c.args.w.start, length_bytes 1 9, end_length c.args.w.end)

pub returns : goal.returns
unfolding window_line bytes
returns c =
    go_on (go_on c.copy-first.ensures (go_on c.put_start-start.ensures c.put1-tab.ensures))
    (go_on c.put_end-end.ensures c.put1.ensures)
