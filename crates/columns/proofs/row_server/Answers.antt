-- `columns::row_server` meets its contract: what is not refused is ready to be mixed.
use Rattle.std.proofs.Common.{◌≡◌, Err, arith}
use Rattle.protocol.proofs.Answered.{unwritten, wrote}
use Rattle.columns.proofs.Unrefused.{row_ready}
use Rattle.columns.proofs.row_server.Goals as goal

pub returns-in_err-refuse_row : goal.returns-in_err-refuse_row
returns-in_err-refuse_row c =
    let e : c.from_residual.result ≡ Err c.in_err-refuse_row.field-0.0 = grind arith in
    rw e (unwritten _ _ _ _ c.in_err-refuse_row.ensures)

pub mix_row-requires : goal.mix_row-requires
mix_row-requires c = row_ready _ _ _ _ _ _ c.in_ok-refuse_row.ensures

pub returns : goal.returns
returns c = wrote _ _ _ _ c.in_ok-refuse_row.ensures c.mix_row.ensures
