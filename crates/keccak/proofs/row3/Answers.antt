-- `row3` computes `chi3_of` of the gathered lanes.
use borrow.Author.Rules.{rules}
use Rattle.keccak.specs.Rows.{numbers, chi3_of}
use Rattle.keccak.proofs.Numbers.{row_is}
use Rattle.keccak.proofs.row3.Goals as goal

pub returns : goal.returns
unfolding chi3_of
returns c =
    let b = c in
    let a = b.args in
    row_is a.p a.q a.r a.s a.t a.d 4 (chi3_of numbers) b.gather-g.ensures
    c.turned-b0.ensures c.turned-b1.ensures c.turned-b2.ensures c.turned-b3.ensures c.turned-b4.ensures
