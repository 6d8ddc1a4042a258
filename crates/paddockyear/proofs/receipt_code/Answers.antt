-- `paddockyear::receipt_code` meets its contract, case by case.
use mathlib.Core.Path.{◌≡◌, sym, ap, ◌∙◌}
use Rattle.std.specs.Prelude.{Result, Ok}
use Rattle.protocol.specs.declared.Rule.{Rule}
use Rattle.protocol.specs.declared.Receipt.{Receipt}
use Rattle.protocol.specs.Answers.{receipt_answer}
use Rattle.paddockyear.specs.Codes.{receipt_code}
use Rattle.paddockyear.proofs.receipt_code.Goals as goal

code_at : {r s : Result Receipt Rule} → r ≡ s → receipt_code (receipt_answer s) ≡ receipt_code (receipt_answer r)
code_at e = sym (ap (λ (r : Result Receipt Rule). receipt_code (receipt_answer r)) e)

found : {r : Result Receipt Rule} {x y : Receipt} → r ≡ Ok x → x ≡ y → receipt_code (receipt_answer (Ok y)) ≡ receipt_code (receipt_answer r)
found {r} {x} {y} is same = code_at (is ∙ ap (λ (z : Receipt). Ok z) same)

pub returns-in-Ok-AsPrinted : goal.returns-in-Ok-AsPrinted
unfolding receipt_code
returns-in-Ok-AsPrinted c = found c.in-Ok-AsPrinted.is (rw c.in-Ok-AsPrinted.is at c.in-Ok-AsPrinted.field-0-is)

pub returns-in-Ok-Otherwise : goal.returns-in-Ok-Otherwise
unfolding receipt_code
returns-in-Ok-Otherwise c = found c.in-Ok-Otherwise.is (rw c.in-Ok-Otherwise.is at c.in-Ok-Otherwise.field-0-is)

pub returns-in-Ok-NotPosted : goal.returns-in-Ok-NotPosted
unfolding receipt_code
returns-in-Ok-NotPosted c = found c.in-Ok-NotPosted.is (rw c.in-Ok-NotPosted.is at c.in-Ok-NotPosted.field-0-is)

pub returns-in-Err : goal.returns-in-Err
unfolding receipt_code
returns-in-Err c = c.number.ensures.0 ∙ code_at c.in-Err.is
