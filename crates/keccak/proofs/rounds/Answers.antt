-- Each of the four rounds is the definition's, row by row.
use mathlib.Core.Path.{◌∙◌}
use borrow.Author.Rules.{rules}
use Rattle.keccak.proofs.Numbers.{by_rows, begun, more}
use Rattle.keccak.proofs.rounds.Goals as goal

pub returns : goal.returns
returns c =
    let x = c in
    let w = x in
    let v = w in
    let u = v in
    let z = u in
    let args = z.args in
    let first =
    begun args.a z.cut-p0.ensures z.cut-q0.ensures z.cut-r0.ensures z.cut-s0.ensures z.cut-t0.ensures
    (by_rows args.k0 u.mix-d0.ensures u.row0-p1.ensures u.row1-q1.ensures u.row2-r1.ensures u.row3-s1.ensures u.row4-t1.ensures) in
    let second =
    more first (by_rows args.k1 v.mix-d1.ensures v.row0-p2.ensures v.row1-q2.ensures v.row2-r2.ensures v.row3-s2.ensures v.row4-t2.ensures) in
    let third =
    more second (by_rows args.k2 w.mix-d2.ensures w.row0-p3.ensures w.row1-q3.ensures w.row2-r3.ensures w.row3-s3.ensures w.row4-t3.ensures) in
    let fourth =
    more third (by_rows args.k3 x.mix-d3.ensures x.row0-p4.ensures x.row1-q4.ensures x.row2-r4.ensures x.row3-s4.ensures x.row4-t4.ensures) in
    c.joined.ensures ∙ fourth.is
