-- Demand 3 over definitions: its first half. Its second half is `complete` of Completeness.
use mathlib.Core.Path.{◌≡◌, subst, sym}
use mathlib.Core.Logic.{◌⊎◌}
use mathlib.Core.List.{List}
use Prim.Native.Nat.{ℕ}
use Rattle.protocol.specs.declared.Parameters.{Parameters}
use Rattle.protocol.specs.Terms.{commitment}
use Rattle.protocol.specs.Record.{parameters_of}
use Rattle.protocol.specs.Stands.{StandsOver, Stands}
use Rattle.protocol.specs.Demand3.{before_first_dice, Triple, Announces, OpenedTwice}
use Rattle.protocol.proofs.Alike.{parameters_alike}
use Rattle.protocol.proofs.Accepting.{accepts_iff}
use Rattle.protocol.proofs.Soundness.{sound_over}

-- records with the same first command have one commitment scheme
one_scheme : (r₁ r : List ℕ) → before_first_dice r₁ ≡ before_first_dice r → Stands r → StandsOver (commitment (parameters_of r₁)) r
one_scheme r₁ r alike = subst (λ (p : Parameters). StandsOver (commitment p) r) (sym (parameters_alike r₁ r alike))

-- "of three accepted records as described in document 01, the third announces each vote exactly as often as the ballots commit it, or one
-- commitment is shown opened in two ways"
pub sound : (r₁ r₂ r₃ : List ℕ) → Triple r₁ r₂ r₃ → Announces r₁ r₂ r₃ ⊎ OpenedTwice r₁ r₂ r₃
sound r₁ r₂ r₃ t =
    sound_over (commitment (parameters_of r₁)) r₁ r₂ r₃ ((accepts_iff r₁).0 t.accepted₁)
    (one_scheme r₁ r₂ t.alike₂ ((accepts_iff r₂).0 t.accepted₂)) (one_scheme r₁ r₃ t.alike₃ ((accepts_iff r₃).0 t.accepted₃))
    t.alike₂ t.alike₃ t.pair t.sides t.masks
