-- `runoff::refuse` meets its contract.
use mathlib.Core.Path.{refl, sym}
use Prim.Native.Nat.{◌≤◌, ◌<◌}
use mathlib.Core.Logic.{◌⊎◌, inl, inr}
use native.Mathlib.Omega.{arith}
use Rattle.std.proofs.lemmas.Grind.{common_steps}
use Rattle.laws.specs.Tests.{is_equal, not_equal, is_at_most, not_at_most, and_go, and_stop, and_last_stop}
use Rattle.laws.specs.Faults.{rule_go, rule_stop}
use Rattle.runoff.specs.Rounds.{runoff_refusal}
use Rattle.runoff.proofs.refuse.Goals as goal

pub returns-then-not-contains : goal.returns-then-not-contains
unfolding runoff_refusal
returns-then-not-contains c =
    let h : (c.args.candidates < 1) ⊎ (9 < c.args.candidates) = grind (arith, common_steps) in elim h [
      | inl low ↦ rule_stop _ _ _ (sym (and_stop _ _ (not_at_most low)))
      | inr high ↦ rule_stop _ _ _ (sym (and_last_stop _ _ (not_at_most high)))
    ]

pub returns-then-table_len-candidates : goal.returns-then-table_len-candidates
unfolding runoff_refusal
returns-then-table_len-candidates c =
    let h : (1 ≤ c.args.candidates) × (c.args.candidates ≤ 9) = grind (arith, common_steps) in
    rule_go _ _ _ (sym (and_go _ _ (is_at_most h.0) (sym (is_at_most h.1)))) (rule_stop _ _ _ (not_equal c.if-table_len-candidates.true))

pub returns : goal.returns
unfolding runoff_refusal
returns c =
    let h : (1 ≤ c.args.candidates) × (c.args.candidates ≤ 9) = grind (arith, common_steps) in
    rule_go _ _ _ (sym (and_go _ _ (is_at_most h.0) (sym (is_at_most h.1)))) (rule_go _ _ _ (is_equal c.if-table_len-candidates.false) refl)
