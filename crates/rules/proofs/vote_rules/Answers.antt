-- `rules::vote_rules` meets its contract: the vote before stands 7 bytes before.
use mathlib.Core.Path.{◌≡◌, refl, sym}
use mathlib.Core.List.{List}
use Prim.Native.Nat.{ℕ, ◌+◌, ◌-◌, ◌*◌}
use native.Mathlib.Omega.{arith}
use Rattle.laws.specs.Tests.{equal, at_most, ◌or◌, is_equal, not_equal, is_below, not_below, is_at_most, not_at_most, or_go, or_stop}
use Rattle.laws.specs.Faults.{rule, kept, rule_go, rule_stop}
use Rattle.laws.specs.Bytes.{number}
use Rattle.protocol.specs.declared.Parameters.{Parameters}
use Rattle.protocol.specs.Layout.{at_vote, at_ballot_half}
use Rattle.protocol.specs.Record.{vote_of}
use Rattle.protocol.specs.Rules.{vote_rules}
use Rattle.rules.proofs.vote_rules.Goals as goal
use Rattle.rules.proofs.vote_rules.Goals.{After-read4-vote, Else-p-vote, else-i-ne0-via-then-i-ne0+else-vote-read4, else-i-ne0-via-else-i-ne0}

pub returns-then-read2-i : goal.returns-then-read2-i
unfolding vote_rules
returns-then-read2-i c = rw (← c.requires.0) (rule_stop 4 _ _ (not_equal (λ e. omega arith)))

-- the vote of the command
vote_read : (c : After-read4-vote) → c.read4-vote.result ≡ vote_of c.args.p c.args.bytes.now c.args.i
unfolding vote_of
vote_read c = rw (← c.requires.0) c.read4-vote.ensures.0

pub returns-then-p-vote : goal.returns-then-p-vote
unfolding vote_rules
returns-then-p-vote c = rw (← c.requires.0) (rule_go 4 _ _ (is_equal (omega arith)) (rule_stop 10 _ _ (not_below (omega (arith, vote_read (goal.at.returns-then-p-vote c).After-read4-vote)))))

-- index and modulus are kept: rule 15 is left
named : (c : Else-p-vote) {k : ℕ} →
    (let p = c.args.p in let r = c.args.bytes.now in let i = c.args.i in
    k ≡ rule 15 (equal i 0 or at_most (vote_of p r (i - 1)) (vote_of p r i)) kept → k ≡ vote_rules p r i)
unfolding vote_rules
named c h = rw (← c.requires.0) (rule_go 4 _ _ (is_equal (omega arith)) (rule_go 10 _ _ (is_below (omega (arith, vote_read (goal.at.Else-p-vote c).After-read4-vote))) h))

pub overflow_sub-at : goal.overflow_sub-at
unfolding at_vote
overflow_sub-at c = omega arith

-- the vote before
before_read : (p : Parameters) (r : List ℕ) (i : ℕ) {at x : ℕ} → at ≡ at_vote p i → (i ≡ 0 → ⊥) → x ≡ number r (at - 4) 4 → x ≡ vote_of p r (i - 1)
unfolding vote_of at_vote
before_read p r i {at} here n e =
    let k : at_ballot_half p p.ballots + 7 * (i - 1) + 3 ≡ at - 4 = omega arith in
    rw k e

pub returns-then-vote-read4 : goal.returns-then-vote-read4
returns-then-vote-read4 c =
    let vote = vote_read (goal.at.returns-then-vote-read4 c).After-read4-vote in
    let before = before_read _ _ _ c.requires.0 c.if-i-ne0.true c.read4.ensures.0 in
    named (goal.at.returns-then-vote-read4 c).Else-p-vote (rule_stop 15 _ _ (sym (or_go _ _ (not_equal c.if-i-ne0.true) (sym (not_at_most (omega arith))))))

pub returns : goal.returns
returns c =
    let vote = vote_read (goal.at.returns c).After-read4-vote in
    named (goal.at.returns c).Else-p-vote
    (elim c.else-i-ne0.branch [
      | else-i-ne0-via-then-i-ne0+else-vote-read4 w ↦
          let before = before_read _ _ _ c.requires.0 w.if-i-ne0.true w.read4.ensures.0 in
          rule_go 15 _ _ (sym (or_go _ _ (not_equal w.if-i-ne0.true) (sym (is_at_most (omega arith))))) refl
      | else-i-ne0-via-else-i-ne0 w ↦ rule_go 15 _ _ (sym (or_stop _ _ (is_equal (omega arith)))) refl
    ])
