-- `disclosure::part_three` meets its contract: what is not refused is ready to be written.
use Rattle.std.proofs.Common.{◌≡◌, arith}
use Rattle.std.specs.Prelude.{Err}
use Rattle.protocol.proofs.Answered.{unwritten, wrote}
use Rattle.disclosure.proofs.Unrefused.{sides_given}
use Rattle.disclosure.proofs.part_three.Goals as goal

pub returns-in_err-part_three : goal.returns-in_err-part_three
returns-in_err-part_three c =
    let e : c.from_residual.result ≡ Err c.in_err-part_three.field-0.0 = grind arith in
    rw e (unwritten _ _ _ _ c.in_err-part_three.ensures)

pub write-requires : goal.write-requires
write-requires c = sides_given _ _ _ _ _ c.in_ok-part_three.ensures

pub returns : goal.returns
returns c = wrote _ _ _ _ c.in_ok-part_three.ensures c.write.ensures
