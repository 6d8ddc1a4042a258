-- `layout::number_width` meets its contract: the definition, form by form.
use mathlib.Core.Path.{sym, ap}
use native.Mathlib.Omega.{arith}
use Rattle.protocol.specs.Layout.{number_width}
use Rattle.layout.proofs.number_width.Goals as goal

pub returns-in-Unnumbered : goal.returns-in-Unnumbered
unfolding number_width
returns-in-Unnumbered c = (sym (ap number_width c.in-Unnumbered.is), omega arith)

pub returns-in-Numbered : goal.returns-in-Numbered
unfolding number_width
returns-in-Numbered c = (sym (ap number_width c.in-Numbered.is), omega arith)
