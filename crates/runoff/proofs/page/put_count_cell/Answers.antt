-- `runoff::page::put_count_cell` meets its contract: a tab, then the count or a dash.
use mathlib.Core.Path.{sym}
use native.Mathlib.Omega.{arith}
use Rattle.laws.specs.Bytes.{bytes, length_bytes}
use Rattle.laws.specs.Tests.{is_equal, not_equal, or_go, or_stop}
use Rattle.laws.specs.Writing.{go_on, go_same}
use Rattle.decimals.proofs.Digits.{decimal_length}
use Rattle.runoff.proofs.Lines.{cell_counts, cell_gone}
use Rattle.runoff.proofs.page.put_count_cell.Goals.{then-left-eq0-via-then-left-eq0, then-left-eq0-via-else-left-eq0+then-left-round}
use Rattle.runoff.proofs.page.put_count_cell.Goals as goal

pub put_decimal-requires : goal.put_decimal-requires
put_decimal-requires c =
    omega (arith, decimal_length c.args.count, length_bytes 1 9, c.requires, c.put1-next.ensures.to, c.put1-next.ensures.wrote.long)

pub returns-then-left-eq0 : goal.returns-then-left-eq0
unfolding bytes
returns-then-left-eq0 c =
    go_same (go_on c.put1-next.ensures c.put_decimal.ensures)
    (cell_counts _ _ _ (elim c.then-left-eq0.branch [
      | then-left-eq0-via-then-left-eq0 w ↦ sym (or_stop _ _ (is_equal w.if-left-eq0.true))
      | then-left-eq0-via-else-left-eq0+then-left-round w ↦ sym (or_go _ _ (not_equal w.if-left-eq0.false) (sym (is_equal w.if-left-round.true)))
    ]))

pub copy-requires : goal.copy-requires
copy-requires c =
    omega (arith, length_bytes 1 9, c.requires, c.put1-next.ensures.to, c.put1-next.ensures.wrote.long)

pub returns : goal.returns
unfolding bytes
returns c =
    go_same (go_on c.put1-next.ensures c.copy.ensures) (cell_gone _ _ c.args.count c.if-left-eq0.false c.if-left-round.false)
