-- `opening_rules::halves_agree` meets its contract.
use mathlib.Core.Path.{◌≡◌, refl, ap}
use Prim.Native.Nat.{ℕ, zero, suc}
use native.Mathlib.Omega.{arith}
use lib.Dec.{eqb}
use Rattle.laws.specs.Tests.{equal}
use Rattle.laws.specs.Modular.{plus, minus}
use Rattle.protocol.specs.Rules.{agrees}
use Rattle.opening_rules.proofs.halves_agree.Goals as goal

on_side_0 : (M side ballot list t : ℕ) {s : ℕ} → side ≡ 0 → s ≡ plus M list t → eqb ballot s ≡ agrees M side ballot list t
unfolding agrees equal
on_side_0 M zero ballot list t e h = ap (eqb ballot) h
on_side_0 M (suc side) ballot list t e h = absurd (omega arith)

on_side_1 : (M side ballot list t : ℕ) {s : ℕ} → (side ≡ 0 → ⊥) → s ≡ minus M list t → eqb ballot s ≡ agrees M side ballot list t
unfolding agrees equal
on_side_1 M zero ballot list t e h = absurd (e refl)
on_side_1 M (suc side) ballot list t e h = ap (eqb ballot) h

pub returns-then-side-eq0 : goal.returns-then-side-eq0
returns-then-side-eq0 c = on_side_0 _ _ _ _ _ c.if-side-eq0.true c.plus.ensures.0

pub returns : goal.returns
returns c = on_side_1 _ _ _ _ _ c.if-side-eq0.false c.minus.ensures.0
