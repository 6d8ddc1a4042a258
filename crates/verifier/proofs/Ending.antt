-- Where a record has to end.
use mathlib.Core.Path.{◌≡◌, refl, sym, ap₂, ◌∙◌}
use mathlib.Core.List.{List}
use Prim.Native.Nat.{ℕ, ◌+◌, ◌≤◌, ◌<◌}
use native.Mathlib.Omega.{arith}
use lib.ListN.{length}
use Rattle.laws.specs.Faults.{Nothing, Fault}
use Rattle.laws.specs.Tests.{at_most, is_at_most, not_at_most}
use Rattle.laws.specs.Faults.{located, rule, rule_go, rule_stop, located_at, located_nothing}
use Rattle.protocol.specs.declared.Parameters.{Parameters}
use Rattle.protocol.specs.Layout.{at_end, record_length}
use Rattle.protocol.specs.Judging.{trailing_fault}

module _ (p : Parameters) (r : List ℕ) where
  pub trailing_stop : {at : ℕ} → at ≡ at_end p → at + 1 < length r → Fault 17 (at + 1) ≡ trailing_fault p r
  unfolding trailing_fault
  trailing_stop {at} e h =
      let k : 17 ≡ rule 17 (at_most (length r) (record_length p)) 0 = rule_stop 17 _ _ (not_at_most (omega arith)) in
      let a : at + 1 ≡ record_length p = omega arith in
      located_at (at + 1) 17 (λ z. omega arith) ∙ ap₂ located a k

  pub trailing_pass : {at : ℕ} → at ≡ at_end p → length r ≤ at + 1 → Nothing ≡ trailing_fault p r
  unfolding trailing_fault
  trailing_pass e h = sym ((located_nothing _ _).1 (sym (rule_go 17 (at_most (length r) (record_length p)) 0 (is_at_most (omega arith)) refl)))
