-- `paddockyear::form` meets its contract: the flag decides.
use mathlib.Core.Path.{◌≡◌}
use mathlib.Core.Logic.{◌≢◌}
use Prim.Native.Nat.{ℕ}
use Rattle.laws.specs.Tests.{differ, is_differ, not_differ}
use Rattle.protocol.specs.declared.Form.TheVariants.{Unnumbered, Numbered}
use Rattle.protocol.specs.Terms.{form_by}
use Rattle.paddockyear.proofs.form.Goals as goal

numbered : (flag election : ℕ) → flag ≢ 0 → Numbered election ≡ form_by (differ flag 0) election
unfolding form_by
numbered flag election h = rw (is_differ h)

unnumbered : (flag election : ℕ) → flag ≡ 0 → Unnumbered ≡ form_by (differ flag 0) election
unfolding form_by
unnumbered flag election h = rw (not_differ h)

pub returns-then-numbered-ne0 : goal.returns-then-numbered-ne0
returns-then-numbered-ne0 c = numbered _ _ c.if-numbered-ne0.true

pub returns-else-numbered-ne0 : goal.returns-else-numbered-ne0
returns-else-numbered-ne0 c = unnumbered _ _ c.if-numbered-ne0.false
