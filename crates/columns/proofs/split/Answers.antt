-- `columns::split` meets its contract: what is not refused is ready to be split.
use Rattle.std.proofs.Common.{◌≡◌, Err, arith}
use Rattle.protocol.proofs.Answered.{unwritten, wrote}
use Rattle.columns.proofs.Unrefused.{pair_ready}
use Rattle.columns.proofs.split.Goals as goal

pub returns-in_err-refuse_pair : goal.returns-in_err-refuse_pair
returns-in_err-refuse_pair c =
    let e : c.from_residual.result ≡ Err c.in_err-refuse_pair.field-0.0 = grind arith in
    rw e (unwritten _ _ _ _ c.in_err-refuse_pair.ensures)

pub split_row-requires : goal.split_row-requires
split_row-requires c = pair_ready _ _ _ _ _ c.in_ok-refuse_pair.ensures

pub returns : goal.returns
returns c = wrote _ _ _ _ c.in_ok-refuse_pair.ensures c.split_row.ensures
