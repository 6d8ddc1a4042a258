-- `layout::parameters` meets its contract: each operand at its place.
use mathlib.Core.Path.{◌≡◌, ap, ◌∙◌}
use mathlib.Core.List.{List}
use Prim.Native.Nat.{ℕ, ◌+◌}
use native.Mathlib.Omega.{arith}
use Rattle.laws.specs.Bytes.{number}
use Rattle.protocol.specs.declared.Form.{Form}
use Rattle.protocol.specs.declared.Parameters.{Parameters}
use Rattle.protocol.specs.Layout.{number_width}
use Rattle.protocol.specs.Record.{form_of, parameters_of}
use Rattle.layout.proofs.parameters.Goals as goal

module _ (r : List ℕ) {f : Form} {w : ℕ} (form : f ≡ form_of r) (wide : w ≡ number_width f) where
  width_is : w ≡ number_width (parameters_of r).form
  unfolding parameters_of
  width_is = wide ∙ ap number_width form

  -- parameters are the same where their parts are
  read_parameters : {M n m : ℕ} → M ≡ number r (1 + w) 4 → n ≡ number r (5 + w) 2 → m ≡ number r (7 + w) 1
      → ◌≡◌ {A = Parameters} (record { form = f; modulus = M; ballots = n; compared = m }) (parameters_of r)
  unfolding parameters_of
  read_parameters d e g = rw (d, e, g, wide, form)

pub read4-requires : goal.read4-requires
read4-requires c = omega (arith, c.requires, width_is _ c.form-form.ensures c.number_width-w.ensures.0)

pub read2-requires : goal.read2-requires
read2-requires c = omega (arith, c.requires, width_is _ c.form-form.ensures c.number_width-w.ensures.0)

pub read1-requires : goal.read1-requires
read1-requires c = omega (arith, c.requires, width_is _ c.form-form.ensures c.number_width-w.ensures.0)

pub returns : goal.returns
returns c =
    read_parameters _ c.form-form.ensures c.number_width-w.ensures.0
    c.read4.ensures.0 c.read2.ensures.0 c.read1.ensures.0
