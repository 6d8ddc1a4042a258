-- `commands::put_form` meets its contract: the code alone, or the code and the election's number.
use mathlib.Core.Path.{sym, ap, ◌∙◌}
use native.Mathlib.Omega.{arith}
use Rattle.laws.specs.Bytes.{length_bytes}
use Rattle.laws.specs.Writing.{go_same}
use Rattle.protocol.specs.Layout.{number_width}
use Rattle.protocol.specs.Record.{form_bytes}
use Rattle.commands.proofs.Operands.{coded, one_byte}
use Rattle.commands.proofs.put_form.Goals as goal

pub put4-requires : goal.put4-requires
unfolding number_width
put4-requires c = omega (arith, length_bytes 1 12, ap number_width c.in-Numbered.is)

pub returns-in-Unnumbered : goal.returns-in-Unnumbered
unfolding form_bytes
returns-in-Unnumbered c = go_same c.put1.ensures (one_byte 1 (omega arith) ∙ sym (ap form_bytes c.in-Unnumbered.is))

pub returns-in-Numbered : goal.returns-in-Numbered
unfolding form_bytes
returns-in-Numbered c =
    go_same (coded 12 (omega arith) c.put1-next.ensures c.put4.ensures)
    (sym (ap form_bytes c.in-Numbered.is))
