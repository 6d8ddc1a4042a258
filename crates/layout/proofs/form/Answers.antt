-- `layout::form` meets its contract: the first byte tells.
use mathlib.Core.Path.{sym, ap, ◌∙◌}
use Rattle.protocol.specs.declared.Form.TheVariants.{Numbered}
use Rattle.protocol.proofs.Forms.{form_numbered, form_unnumbered}
use Rattle.layout.proofs.form.Goals as goal

pub returns-then-bytes-eq12 : goal.returns-then-bytes-eq12
returns-then-bytes-eq12 c = ap Numbered c.read4.ensures.0 ∙ sym (form_numbered _ c.if-bytes-eq12.true)

pub returns-else-bytes-eq12 : goal.returns-else-bytes-eq12
returns-else-bytes-eq12 c = sym (form_unnumbered _ c.if-bytes-eq12.false)
