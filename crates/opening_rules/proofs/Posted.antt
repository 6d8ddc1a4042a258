-- Rules one after another.
use mathlib.Core.Path.{◌≡◌, refl, sym, ◌∙◌}
use mathlib.Core.Bool.{Bool, true, false}
use Prim.Native.Nat.{ℕ}
use Rattle.laws.specs.Tests.{◌implies◌, never}
use Rattle.laws.specs.Faults.{rule, rule_go, rule_stop}

-- x is what a rule and those after it find: what the others find, or the rule
pub goes_on : (k : ℕ) (t : Bool) (rest : ℕ) {x : ℕ} → x ≡ rule k t rest → t ≡ true → x ≡ rest
goes_on k t rest e h = e ∙ sym (rule_go k t rest h refl)

pub breaks : (k : ℕ) (t : Bool) (rest : ℕ) {x : ℕ} → x ≡ rule k t rest → t ≡ false → k ≡ x
breaks k t rest e h = rule_stop k t rest h ∙ sym e

-- a test that is made only where another holds
pub implies_on : (a b : Bool) → a ≡ true → (a implies b) ≡ b
unfolding ◌implies◌
implies_on true b e = refl
implies_on false b e = absurd (never e refl)

pub implies_off : (a b : Bool) → a ≡ false → (a implies b) ≡ true
unfolding ◌implies◌
implies_off true b e = absurd (never refl e)
implies_off false b e = refl
