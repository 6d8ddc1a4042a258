-- Each of the three rounds is the definition's, row by row.
use mathlib.Core.Path.{◌∙◌}
use borrow.Author.Rules.{rules}
use Rattle.keccak.proofs.Numbers.{by_rows, begun, more}
use Rattle.keccak.proofs.first_rounds.Goals as goal

pub returns : goal.returns
returns c =
    let x = c in
    let w = x in
    let v = w in
    let z = v in
    let args = z.args in
    let first =
    begun args.a z.cut-v0.ensures z.cut-w0.ensures z.cut-x0.ensures z.cut-y0.ensures z.cut-z0.ensures
    (by_rows args.k0 v.mix-d0.ensures v.row0-v1.ensures v.row1-w1.ensures v.row2-x1.ensures v.row3-y1.ensures v.row4-z1.ensures) in
    let second =
    more first (by_rows args.k1 w.mix-d1.ensures w.row0-v2.ensures w.row1-w2.ensures w.row2-x2.ensures w.row3-y2.ensures w.row4-z2.ensures) in
    let third =
    more second (by_rows args.k2 x.mix-d2.ensures x.row0-v3.ensures x.row1-w3.ensures x.row2-x3.ensures x.row3-y3.ensures x.row4-z3.ensures) in
    c.joined.ensures ∙ third.is
