-- `layout::due_form` meets its contract: the first byte tells, and where there is none the form is that of document 01.
use mathlib.Core.Path.{◌≡◌, sym}
use native.Mathlib.Omega.{arith}
use lib.ListN.{length}
use Rattle.std.proofs.lemmas.Grind.{common_steps}
use Rattle.protocol.proofs.Forms.{code_none, code_numbered, code_unnumbered}
use Rattle.protocol.specs.Layout.{first_code}
use Rattle.layout.proofs.due_form.Goals as goal
use Rattle.layout.proofs.due_form.Goals.{else-not-is_empty-via-then-not-is_empty+else-bytes-eq12, else-not-is_empty-via-else-not-is_empty}

pub returns-then-bytes-eq12 : goal.returns-then-bytes-eq12
unfolding first_code
returns-then-bytes-eq12 c = sym (code_numbered _ c.if-bytes-eq12.true)

pub returns-else-not-is_empty : goal.returns-else-not-is_empty
unfolding first_code
returns-else-not-is_empty c =
    elim c.else-not-is_empty.branch [
      | else-not-is_empty-via-then-not-is_empty+else-bytes-eq12 w ↦ sym (code_unnumbered _ w.if-bytes-eq12.false)
      | else-not-is_empty-via-else-not-is_empty w ↦
          let h = w.if-not-is_empty.false in
          let z : length c.args.bytes.now ≡ 0 = grind (arith, common_steps) in
          sym (code_none _ z)
    ]
