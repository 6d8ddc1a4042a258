-- Each of the four rounds is the definition's, row by row, as in `rounds`.
use mathlib.Core.Path.{◌∙◌}
use borrow.Author.Rules.{rules}
use Rattle.keccak.proofs.Numbers.{by_rows, begun, more}
use Rattle.keccak.proofs.inner_rounds.Goals as goal

pub returns : goal.returns
returns c =
    let x = c in
    let w = x in
    let v = w in
    let u = v in
    let z = u in
    let args = z.args in
    let first =
    begun args.a z.cut-f0.ensures z.cut-g0.ensures z.cut-h0.ensures z.cut-i0.ensures z.cut-j0.ensures
    (by_rows args.k0 u.mix-d0.ensures u.row0-f1.ensures u.row1-g1.ensures u.row2-h1.ensures u.row3-i1.ensures u.row4-j1.ensures) in
    let second =
    more first (by_rows args.k1 v.mix-d1.ensures v.row0-f2.ensures v.row1-g2.ensures v.row2-h2.ensures v.row3-i2.ensures v.row4-j2.ensures) in
    let third =
    more second (by_rows args.k2 w.mix-d2.ensures w.row0-f3.ensures w.row1-g3.ensures w.row2-h3.ensures w.row3-i3.ensures w.row4-j3.ensures) in
    let fourth =
    more third (by_rows args.k3 x.mix-d3.ensures x.row0-f4.ensures x.row1-g4.ensures x.row2-h4.ensures x.row3-i4.ensures x.row4-j4.ensures) in
    c.joined.ensures ∙ fourth.is
