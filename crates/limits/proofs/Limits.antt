-- The limits as statements.
use mathlib.Core.Path.{◌≡◌}
use mathlib.Core.Logic.Iff
use mathlib.Core.Logic.{◌↔◌}
use mathlib.Core.Bool.{true}
use Prim.Native.Nat.{ℕ, ◌≤◌}
use Rattle.laws.specs.Faults.{rules}
use Rattle.protocol.specs.Terms.{most_ballots, modulus_in_limits, ballots_in_limits}

pub modulus_iff : (modulus : ℕ) → (modulus_in_limits modulus ≡ true) ↔ ((2 ≤ modulus) × (modulus ≤ 4294967295))
unfolding modulus_in_limits
modulus_iff modulus = simp rules Iff.rfl

pub ballots_iff : (n : ℕ) → (ballots_in_limits n ≡ true) ↔ ((1 ≤ n) × (n ≤ most_ballots))
unfolding ballots_in_limits
ballots_iff n = simp rules Iff.rfl
