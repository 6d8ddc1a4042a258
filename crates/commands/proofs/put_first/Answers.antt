-- `commands::put_first` meets its contract: the form and the three parameters.
use mathlib.Core.List.{◌++◌, append_assoc}
use native.Mathlib.Omega.{arith}
use Rattle.laws.specs.Bytes.{bytes, length_bytes}
use Rattle.laws.specs.Writing.{go_on, go_same}
use Rattle.protocol.specs.Record.{form_bytes, first_command}
use Rattle.protocol.proofs.Widths.{length_form}
use Rattle.commands.proofs.put_first.Goals as goal

pub put4-b-requires : goal.put4-b-requires
put4-b-requires c = omega (arith, length_form c.args.p.form)

pub put2-c-requires : goal.put2-c-requires
put2-c-requires c =
    let p = c.args.p in
    omega (arith, length_form p.form, length_bytes 4 p.modulus)

pub put1-requires : goal.put1-requires
put1-requires c =
    let p = c.args.p in
    omega (arith, length_form p.form, length_bytes 4 p.modulus, length_bytes 2 p.ballots)

pub returns : goal.returns
unfolding first_command
returns c =
    let p = c.args.p in
    go_same (go_on (go_on (go_on c.put_form-a.ensures c.put4-b.ensures) c.put2-c.ensures) c.put1.ensures)
    (append_assoc (form_bytes p.form ++ bytes 4 p.modulus) (bytes 2 p.ballots) (bytes 1 p.compared))
