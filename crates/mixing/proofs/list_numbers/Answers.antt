-- `mixing::list_numbers` meets its contract: what is lent is the list's part.
use native.Mathlib.Omega.{arith}
use Rattle.mixing.proofs.Following.{numbers_end, list_part}
use Rattle.mixing.proofs.list_numbers.Goals as goal

pub slice_bounds-result-end : goal.slice_bounds-result-end
slice_bounds-result-end c =
    let pre = rw (← c.s.view_is) at c.requires in
    omega (arith, pre.0.long, numbers_end pre.1)

pub returns : goal.returns
returns c =
    let pre = rw (← c.s.view_is) at c.requires in
    rw (← c.s.view_is) (list_part _ c.args.l pre.0 pre.1)
