-- `comparison::part_two_drawn` meets its contract: what is not refused is ready to be written, whatever mask is drawn.
use mathlib.Core.Path.{refl, ap, ◌∙◌}
use mathlib.Core.List.{[]}
use Rattle.std.proofs.lemmas.Result.{err_from_is_err_and}
use Rattle.protocol.specs.Servers.{second_part, mask_for}
use Rattle.protocol.proofs.Answered.{unwritten, wrote}
use Rattle.mixing.proofs.Agreement.{compared_same}
use Rattle.comparison.proofs.Unrefused.{mask_drawn}
use Rattle.comparison.proofs.part_two_drawn.Goals as goal

pub returns-in_err-part_two_drawn : goal.returns-in_err-part_two_drawn
returns-in_err-part_two_drawn c =
    let p = err_from_is_err_and c.from_residual.result c.from_residual.ensures.1 in
    rw (p.1, p.2) (unwritten _ _ _ _ c.in_err-part_two_drawn.ensures)

pub mask_of-mask-requires : goal.mask_of-mask-requires
mask_of-mask-requires c =
    let ready = rw (← c.s.view_is) at c.in_ok-part_two_drawn.ensures in
    let (passed, (is30, rest)) = mask_drawn _ _ _ _ _ [] ready refl in
    (passed.tests.compared_high, is30)

pub write-requires : goal.write-requires
write-requires c = mask_drawn _ _ _ _ _ _ c.in_ok-part_two_drawn.ensures (rw (compared_same c.s.view_is) at c.mask_of-mask.ensures)

pub returns : goal.returns
unfolding mask_for
returns c =
    wrote _ _ _ _ c.in_ok-part_two_drawn.ensures
    (c.write.ensures ∙ ap (second_part _ _) (rw (compared_same c.s.view_is) at c.mask_of-mask.ensures))
