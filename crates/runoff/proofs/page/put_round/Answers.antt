-- `runoff::page::put_round` meets its contract: the round's number, its counts, who leaves and the line's end, one behind the other.
use native.Mathlib.Omega.{arith}
use Rattle.laws.specs.Bytes.{bytes, length_bytes}
use Rattle.laws.specs.Writing.{go_on}
use Rattle.decimals.proofs.Digits.{decimal_length}
use Rattle.runoff.specs.Page.{dash, round_line}
use Rattle.runoff.proofs.Lines.{room_behind, named_by, named_or_length, count_cells_length}
use Rattle.runoff.proofs.page.put_round.Goals as goal

pub put_decimal-first-requires : goal.put_decimal-first-requires
put_decimal-first-requires c =
    omega (arith, decimal_length c.args.s.rounds, c.requires.1)

pub put_counts-counted-requires : goal.put_counts-counted-requires
put_counts-counted-requires c =
    (c.requires.0, room_behind 10 108 c.put_decimal-first.ensures (decimal_length c.args.s.rounds) (omega (arith, c.requires.1)))

pub put1-tab-requires : goal.put1-tab-requires
put1-tab-requires c =
    room_behind 108 1 c.put_counts-counted.ensures
    (omega (arith, c.requires.0.few, count_cells_length c.args.candidates c.args.s))
    (room_behind 10 109 c.put_decimal-first.ensures (decimal_length c.args.s.rounds) (omega (arith, c.requires.1)))

pub put_named_or-end-requires : goal.put_named_or-end-requires
put_named_or-end-requires c = (
  room_behind 1 11 c.put1-tab.ensures (omega (arith, length_bytes 1 9))
      (room_behind 108 12 c.put_counts-counted.ensures
      (omega (arith, c.requires.0.few, count_cells_length c.args.candidates c.args.s))
      (room_behind 10 120 c.put_decimal-first.ensures (decimal_length c.args.s.rounds) (omega (arith, c.requires.1)))),
  omega arith,
)

pub put1-requires : goal.put1-requires
put1-requires c =
    room_behind 11 1 (named_by dash _ c.leaver_among-leaver.ensures c.put_named_or-end.ensures) (named_or_length dash _ (omega arith))
    (room_behind 1 12 c.put1-tab.ensures (omega (arith, length_bytes 1 9))
    (room_behind 108 13 c.put_counts-counted.ensures
    (omega (arith, c.requires.0.few, count_cells_length c.args.candidates c.args.s))
    (room_behind 10 121 c.put_decimal-first.ensures (decimal_length c.args.s.rounds) (omega (arith, c.requires.1)))))

pub returns : goal.returns
unfolding round_line bytes
returns c =
    let who = named_by dash _ c.leaver_among-leaver.ensures c.put_named_or-end.ensures in
    go_on (go_on c.put_decimal-first.ensures c.put_counts-counted.ensures) (go_on (go_on c.put1-tab.ensures who) c.put1.ensures)
