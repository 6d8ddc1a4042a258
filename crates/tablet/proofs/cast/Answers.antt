-- `tablet::cast` meets its contract: what is not refused is ready to be written.
use mathlib.Core.Path.{ap, ◌∙◌}
use Rattle.std.proofs.Common.{◌≡◌, Err, arith}
use Rattle.protocol.specs.Tablet.{tablet_command, receipt}
use Rattle.protocol.proofs.Answered.{unwritten, wrote}
use Rattle.tablet.proofs.Unrefused.{cast_ready}
use Rattle.tablet.proofs.cast.Goals as goal

pub returns-in_err-refuse : goal.returns-in_err-refuse
returns-in_err-refuse c =
    let r = c.in_err-refuse.ensures in
    let s = c.args in
    let written = tablet_command s.form s.modulus s.id s.vote s.x s.y s.u1 s.u2 s.u3 s.keys.now in
    let at-command = unwritten _ _ s.command.now written r in
    let e : c.from_residual.result ≡ Err c.in_err-refuse.field-0.0 = grind arith in
    rw e (at-command.0, (at-command.1, (unwritten _ _ s.receipt.now (receipt s.id written) r).1))

pub put_command-requires : goal.put_command-requires
put_command-requires c = (cast_ready _ _ _ _ _ _ _ _ _ _ c.in_ok-refuse.ensures).0

pub put_receipt-requires : goal.put_receipt-requires
put_receipt-requires c = (cast_ready _ _ _ _ _ _ _ _ _ _ c.in_ok-refuse.ensures).1

pub returns : goal.returns
returns c =
    let r = c.in_ok-refuse.ensures in
    let s = c.args in
    let command = c.put_command.ensures in
    let at-command = wrote _ s.command.now _ _ r command in
    (at-command.0, (at-command.1, (wrote _ s.receipt.now _ _ r (c.put_receipt.ensures ∙ ap (receipt s.id) command)).1))
