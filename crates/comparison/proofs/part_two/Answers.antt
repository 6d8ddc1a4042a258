-- `comparison::part_two` meets its contract: what is not refused is ready to be written.
use Rattle.std.proofs.lemmas.Result.{err_from_is_err_and}
use Rattle.protocol.proofs.Answered.{unwritten, wrote}
use Rattle.comparison.proofs.Unrefused.{mask_given}
use Rattle.comparison.proofs.part_two.Goals as goal

pub returns-in_err-part_two : goal.returns-in_err-part_two
returns-in_err-part_two c =
    let p = err_from_is_err_and c.from_residual.result c.from_residual.ensures.1 in
    rw (p.1, p.2) (unwritten _ _ _ _ c.in_err-part_two.ensures)

pub write-requires : goal.write-requires
write-requires c = mask_given _ _ _ _ c.in_ok-part_two.ensures

pub returns : goal.returns
returns c = wrote _ _ _ _ c.in_ok-part_two.ensures c.write.ensures
