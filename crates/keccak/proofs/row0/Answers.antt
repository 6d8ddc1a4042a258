-- `row0` computes `chi0_of` of the gathered lanes.
use borrow.Author.Rules.{rules}
use Rattle.keccak.specs.Rows.{numbers, chi0_of}
use Rattle.keccak.proofs.Numbers.{row_is}
use Rattle.keccak.proofs.row0.Goals as goal

pub returns : goal.returns
unfolding chi0_of
returns c =
    let b = c in
    let a = b.args in
    row_is a.p a.q a.r a.s a.t a.d 0 (chi0_of numbers a.c) b.gather-g.ensures
    c.turned-b0.ensures c.turned-b1.ensures c.turned-b2.ensures c.turned-b3.ensures c.turned-b4.ensures
