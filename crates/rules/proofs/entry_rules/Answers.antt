-- `rules::entry_rules` meets its contract: one test after the other.
use mathlib.Core.Path.{refl}
use native.Mathlib.Omega.{arith}
use Rattle.laws.specs.Tests.{is_equal, not_equal}
use Rattle.laws.specs.Faults.{rule_go, rule_stop}
use Rattle.protocol.specs.Rules.{entry_rules}
use Rattle.rules.proofs.entry_rules.Goals as goal
use Rattle.rules.proofs.entry_rules.Goals.{then-read1-l-via-then-read1-l, then-read1-l-via-else-read1-l+then-read2-i}

pub returns-then-read1-l : goal.returns-then-read1-l
unfolding entry_rules
returns-then-read1-l c =
    rw (← c.requires.0)
    (elim c.then-read1-l.branch [
      | then-read1-l-via-then-read1-l w ↦ rule_stop 4 _ _ (not_equal (λ e. omega arith))
      | then-read1-l-via-else-read1-l+then-read2-i w ↦ rule_go 4 _ _ (is_equal (omega arith)) (rule_stop 4 _ _ (not_equal (λ e. omega arith)))
    ])

pub returns : goal.returns
unfolding entry_rules
returns c = rw (← c.requires.0) (rule_go 4 _ _ (is_equal (omega arith)) (rule_go 4 _ _ (is_equal (omega arith)) refl))
