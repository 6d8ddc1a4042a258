-- `paddockyear::runoff_code` meets its contract, case by case.
use mathlib.Core.Path.{◌≡◌, sym, ap, ◌∙◌}
use Prim.Native.Nat.{ℕ}
use Rattle.std.specs.Prelude.{Result}
use Rattle.protocol.specs.declared.Rule.{Rule}
use Rattle.runoff.specs.declared.Counted.{Counted}
use Rattle.runoff.specs.Rounds.{runoff_answer}
use Rattle.paddockyear.specs.Codes.{code_of, value_in}
use Rattle.paddockyear.proofs.runoff_code.Goals as goal

code_at : {r s : Result Counted Rule} → r ≡ s → code_of (runoff_answer s) ≡ code_of (runoff_answer r)
code_at e = sym (ap (λ (w : Result Counted Rule). code_of (runoff_answer w)) e)

value_at : (i before : ℕ) {r s : Result Counted Rule} → r ≡ s → value_in (runoff_answer s) i before ≡ value_in (runoff_answer r) i before
value_at i before e = sym (ap (λ (w : Result Counted Rule). value_in (runoff_answer w) i before) e)

pub returns-in-Ok : goal.returns-in-Ok
unfolding code_of value_in
returns-in-Ok c = let e = c.in-Ok.is in (code_at e, (c.unwrap_or.ensures ∙ value_at 0 _ e, (value_at 1 _ e, value_at 2 _ e)))

pub returns-in-Err : goal.returns-in-Err
unfolding code_of value_in
returns-in-Err c = let e = c.in-Err.is in (c.number.ensures.0 ∙ code_at e, (value_at 0 _ e, (value_at 1 _ e, value_at 2 _ e)))
