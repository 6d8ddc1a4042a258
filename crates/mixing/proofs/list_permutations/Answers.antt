-- `mixing::list_permutations` meets its contract: what is lent is the list's part.
use native.Mathlib.Omega.{arith}
use Rattle.mixing.proofs.Following.{permutations_end, permutations_part}
use Rattle.mixing.proofs.list_permutations.Goals as goal

pub slice_bounds-result-end : goal.slice_bounds-result-end
slice_bounds-result-end c =
    let pre = rw (← c.s.view_is) at c.requires in
    omega (arith, pre.0.long, permutations_end pre.1)

pub returns : goal.returns
returns c =
    let pre = rw (← c.s.view_is) at c.requires in
    rw (← c.s.view_is) (permutations_part _ c.args.l pre.0 pre.1)
