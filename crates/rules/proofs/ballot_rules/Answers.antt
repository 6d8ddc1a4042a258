-- `rules::ballot_rules` meets its contract: the id before stands 197 bytes before.
use mathlib.Core.Path.{◌≡◌, refl, sym}
use mathlib.Core.List.{List}
use Prim.Native.Nat.{ℕ, ◌+◌, ◌-◌, ◌*◌}
use native.Mathlib.Omega.{arith}
use Rattle.laws.specs.Tests.{◌implies◌, is_equal, not_equal, is_below, not_below, or_go, or_stop}
use Rattle.laws.specs.Faults.{rule, rule_go, rule_stop}
use Rattle.laws.specs.Bytes.{number}
use Rattle.protocol.specs.declared.Parameters.{Parameters}
use Rattle.protocol.specs.Layout.{first_width, at_ballot}
use Rattle.protocol.specs.Record.{id_of}
use Rattle.protocol.specs.Rules.{ballot_rules}
use Rattle.rules.proofs.ballot_rules.Goals as goal
use Rattle.rules.proofs.ballot_rules.Goals.{else-j-ne0-via-then-j-ne0+else-read4, else-j-ne0-via-else-j-ne0}

module _ (p : Parameters) (r : List ℕ) (j : ℕ) {at x : ℕ} (here : at ≡ at_ballot p j) where
  -- the id of the command, and the id before
  id_read : x ≡ number r (at + 1) 4 → x ≡ id_of p r j
  unfolding id_of
  id_read e = rw (← here) e

  before_read : (j ≡ 0 → ⊥) → x ≡ number r (at - 196) 4 → x ≡ id_of p r (j - 1)
  unfolding id_of at_ballot
  before_read n e =
      let k : first_width p + 197 * (j - 1) + 1 ≡ at - 196 = omega arith in
      rw k e

pub overflow_sub-at : goal.overflow_sub-at
unfolding at_ballot
overflow_sub-at c = omega arith

pub returns-then-read4 : goal.returns-then-read4
unfolding ballot_rules
returns-then-read4 c =
    let id = id_read _ _ _ c.requires.0 c.read4.ensures.0 in
    let before = before_read _ _ _ c.requires.0 c.if-j-ne0.true c.read4-then-j-ne0.ensures.0 in
    rule_stop 5 _ _ (sym (or_go _ _ (not_equal c.if-j-ne0.true) (sym (not_below (omega arith)))))

pub returns : goal.returns
unfolding ballot_rules ◌implies◌ rule
returns c =
    elim c.else-j-ne0.branch [
      | else-j-ne0-via-then-j-ne0+else-read4 w ↦
          let id = id_read _ _ _ c.requires.0 w.read4.ensures.0 in
          let before = before_read _ _ _ c.requires.0 w.if-j-ne0.true w.read4-then-j-ne0.ensures.0 in
          rule_go 5 _ _ (sym (or_go _ _ (not_equal w.if-j-ne0.true) (sym (is_below (omega arith))))) refl
      | else-j-ne0-via-else-j-ne0 w ↦ rule_go 5 _ _ (sym (or_stop _ _ (is_equal (omega arith)))) refl
    ]
