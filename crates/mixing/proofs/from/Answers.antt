-- `mixing::from` meets its contract: what is read is the permutation's.
use Rattle.mixing.proofs.Following.{from_is}
use Rattle.mixing.proofs.from.Goals as goal

pub returns : goal.returns
returns c =
    let a = c.args in
    let pre = rw (← c.s.view_is) at c.requires in
    rw (c.list_permutations.ensures.0, ← c.s.view_is) (from_is _ a.l a.c a.i pre.0 pre.1.0.list pre.1.1.0 pre.1.1.1)
