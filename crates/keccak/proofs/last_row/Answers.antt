-- Row 0 of a round comes from the state's rows by theta's sums and `row0`; the round's other rows have no part in it.
use mathlib.Core.Path.{ap, ◌∙◌}
use borrow.Author.Rules.{rules}
use Rattle.keccak.specs.Rows.{row_at}
use Rattle.keccak.proofs.Numbers.{first_of_rows, as_rows}
use Rattle.keccak.proofs.last_row.Goals as goal

pub returns : goal.returns
returns c =
    let d = c in
    let z = d in
    let args = z.args in
    first_of_rows args.c z.cut-p.result z.cut-q.result z.cut-r.result z.cut-s.result z.cut-t.result d.mix-d.ensures c.row0.ensures
    ∙ ap (λ l. row_at l 0) (as_rows args.c args.a z.cut-p.ensures z.cut-q.ensures z.cut-r.ensures z.cut-s.ensures z.cut-t.ensures)
