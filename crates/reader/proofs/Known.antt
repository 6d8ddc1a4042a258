-- What a command's rules ask, from what the command reader is told.
use mathlib.Core.List.{List}
use mathlib.Core.Bool.{Bool}
use mathlib.Core.Path.{◌≡◌, subst}
use Prim.Native.Nat.{ℕ}
use Rattle.protocol.specs.declared.Parameters.{Parameters}
use Rattle.protocol.specs.declared.Due.{Due}
use Rattle.protocol.specs.Rules.{place_of}
use Rattle.rules.specs.Known.{Known}

-- what is told of the due command is told of the command that it is
pub told : (p : Parameters) (r : List ℕ) (drawn : Bool) (text : List ℕ) (marks : List Bool) {at : ℕ} {due d : Due}
    → due ≡ d → (at ≡ place_of p r due) × Known p r drawn text marks due → (at ≡ place_of p r d) × Known p r drawn text marks d
told p r drawn text marks {at} is k = subst (λ (d : Due). (at ≡ place_of p r d) × Known p r drawn text marks d) is k
