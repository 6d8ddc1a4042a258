-- `board::part_one` meets its contract: what is not refused is ready to be written.
use Rattle.std.proofs.lemmas.Result.{err_from_is_err_and}
use Rattle.protocol.proofs.Answered.{unwritten, wrote}
use Rattle.board.proofs.Unrefused.{part_ready}
use Rattle.board.proofs.part_one.Goals as goal

pub returns-in_err-part_one : goal.returns-in_err-part_one
returns-in_err-part_one c =
    let p = err_from_is_err_and c.from_residual.result c.from_residual.ensures.1 in
    rw (p.1, p.2) (unwritten _ _ _ _ c.in_err-part_one.ensures)

pub write-requires : goal.write-requires
write-requires c = part_ready _ _ c.in_ok-part_one.ensures

pub returns : goal.returns
returns c = wrote _ _ _ _ c.in_ok-part_one.ensures c.write.ensures
