-- `schedule::page::put_windows` meets its contract: four lines, one behind the other.
use native.Mathlib.Omega.{arith}
use Rattle.laws.specs.Writing.{go_on}
use Rattle.schedule.specs.Page.{polling_word, first_word, second_word, window_lines}
use Rattle.schedule.proofs.Paging.{line_length}
use Rattle.schedule.proofs.page.put_windows.Goals as goal

pub put_window-first-requires : goal.put_window-first-requires
put_window-first-requires c =
    record {
      small = c.requires.0.first;
      short = omega arith;
      room =
          omega (
            arith,
            line_length polling_word c.args.w.polling (omega arith),
          );
    }

pub put_window-second-requires : goal.put_window-second-requires
put_window-second-requires c =
    record {
      small = c.requires.0.second;
      short = omega arith;
      room =
          omega (
            arith,
            line_length polling_word c.args.w.polling (omega arith),
            line_length first_word c.args.w.first (omega arith),
          );
    }

pub put_window-requires : goal.put_window-requires
put_window-requires c =
    record {
      small = c.requires.0.objections;
      short = omega arith;
      room =
          omega (
            arith,
            line_length polling_word c.args.w.polling (omega arith),
            line_length first_word c.args.w.first (omega arith),
            line_length second_word c.args.w.second (omega arith),
          );
    }

pub returns : goal.returns
unfolding window_lines
returns c =
    go_on (go_on c.put_window-polling.ensures c.put_window-first.ensures)
    (go_on c.put_window-second.ensures c.put_window.ensures)
