-- Slices that pass every test that some writer makes of them.
use Rattle.std.specs.Prelude.{Bool}
use Rattle.protocol.specs.Inputs.{Slices}
use Rattle.protocol.proofs.Unrefused.{Unrefused}

pub record Passed (s : Slices) : Type 0 where
  pub lengths : Bool
  pub fair : Bool
  pub shape : Bool
  pub binary : Bool
  pub tests : Unrefused s lengths fair shape binary
