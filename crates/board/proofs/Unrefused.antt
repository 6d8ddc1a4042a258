-- What part one does not refuse is ready to be written.
use mathlib.Core.Path.{◌≡◌, sym}
use mathlib.Core.Bool.{true}
use Prim.Native.Nat.{ℕ}
use Rattle.laws.specs.Tests.{equal, equal_iff}
use Rattle.protocol.specs.Layout.{part_one_length}
use Rattle.protocol.specs.Inputs.{Slices}
use Rattle.protocol.specs.Refusals.{part_one_refusal}
use Rattle.protocol.proofs.Unrefused.{unrefused}
use Rattle.mixing.specs.Passed.{Passed}

pub part_ready : (s : Slices) (long : ℕ) → 0 ≡ part_one_refusal s long → Passed s × (long ≡ part_one_length s.parameters)
unfolding part_one_refusal
part_ready s long e =
    let lengths = equal long (part_one_length s.parameters) in
    let u = unrefused s lengths true true true (sym e) in
    (record { lengths = lengths; fair = true; shape = true; binary = true; tests = u }, (equal_iff long (part_one_length s.parameters)).0 u.lengths_due)
