-- `runoff::page::put_header` meets its contract: behind the first word the cells of the first i candidates are written.
use mathlib.Core.Path.{◌≡◌, ap}
use native.Mathlib.Omega.{arith}
use Rattle.laws.specs.Chunks.{chunks}
use Rattle.laws.specs.Writing.{start, go_on, go_turn, go_same}
use Rattle.runoff.specs.Page.{header_cell, header_line}
use Rattle.runoff.proofs.Lines.{chunks_most, header_cell_length}
use Rattle.runoff.proofs.page.put_header.Goals as goal

pub loop-i-init : goal.loop-i-init
loop-i-init c =
    start _ _ (omega (arith, c.requires, c.copy-next.ensures.to, c.copy-next.ensures.wrote.long))

-- ---- a turn

pub put_header_cell-next-requires : goal.put_header_cell-next-requires
put_header_cell-next-requires c =
    let went = c.loop-i.invariant in (
      omega arith,
      omega (
        arith,
        c.requires,
        c.copy-next.ensures.to,
        c.copy-next.ensures.wrote.long,
        went.to,
        went.wrote.long,
        chunks_most header_cell 12 c.loop-i.i header_cell_length,
      ),
    )

pub loop-i-preserved : goal.loop-i-preserved
loop-i-preserved c =
    go_turn header_cell c.loop-i.i c.loop-i.invariant c.put_header_cell-next.ensures

-- ---- the end

pub copy-requires : goal.copy-requires
copy-requires c =
    let went = c.loop-i.invariant in
    omega (
      arith,
      c.requires,
      c.copy-next.ensures.to,
      c.copy-next.ensures.wrote.long,
      went.to,
      went.wrote.long,
      chunks_most header_cell 12 c.loop-i.i header_cell_length,
    )

pub returns : goal.returns
unfolding header_line
returns c =
    let e : c.loop-i.i ≡ c.args.candidates = omega arith in
    go_on (go_on c.copy-next.ensures (go_same c.loop-i.invariant (ap (chunks header_cell) e))) c.copy.ensures
