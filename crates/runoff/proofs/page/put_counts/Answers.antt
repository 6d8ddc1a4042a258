-- `runoff::page::put_counts` meets its contract: the cells of the first i candidates are written, of at most 12 bytes each.
use mathlib.Core.Path.{◌≡◌, ap}
use native.Mathlib.Omega.{arith}
use Rattle.laws.specs.Chunks.{chunks}
use Rattle.laws.specs.Writing.{start, go_turn, go_same}
use Rattle.runoff.specs.Page.{count_cells}
use Rattle.runoff.proofs.Lines.{count_cells_length}
use Rattle.runoff.proofs.page.put_counts.Invariants.{cell_at}
use Rattle.runoff.proofs.page.put_counts.Goals as goal

pub loop-i-init : goal.loop-i-init
loop-i-init c = start _ _ (omega (arith, c.requires.1))

pub put_count_cell-next-requires : goal.put_count_cell-next-requires
unfolding count_cells
put_count_cell-next-requires c =
    let went = c.loop-i.invariant in
    omega (arith, c.requires.0.few, c.requires.1, went.to, went.wrote.long, count_cells_length c.loop-i.i c.args.s)

pub loop-i-preserved : goal.loop-i-preserved
loop-i-preserved c =
    let s = c.args.s in
    go_turn (cell_at s.rounds s.left s.counts) c.loop-i.i c.loop-i.invariant c.put_count_cell-next.ensures

pub returns : goal.returns
unfolding count_cells
returns c =
    let args = c.args in
    let e : c.loop-i.i ≡ args.candidates = omega arith in
    go_same c.loop-i.invariant (ap (chunks (cell_at args.s.rounds args.s.left args.s.counts)) e)
