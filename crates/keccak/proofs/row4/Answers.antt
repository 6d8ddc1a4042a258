-- `row4` computes `chi4_of` of the gathered lanes.
use borrow.Author.Rules.{rules}
use Rattle.keccak.specs.Rows.{numbers, chi4_of}
use Rattle.keccak.proofs.Numbers.{row_is}
use Rattle.keccak.proofs.row4.Goals as goal

pub returns : goal.returns
unfolding chi4_of
returns c =
    let b = c in
    let a = b.args in
    row_is a.p a.q a.r a.s a.t a.d 2 (chi4_of numbers) b.gather-g.ensures
    c.turned-b0.ensures c.turned-b1.ensures c.turned-b2.ensures c.turned-b3.ensures c.turned-b4.ensures
