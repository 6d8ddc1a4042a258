-- `rules::link_rules` meets its contract: the mark of the position tells whether an earlier link took it.
use mathlib.Core.Path.{◌≡◌, refl, sym, ap, ◌∙◌}
use mathlib.Core.Bool.{Bool, false, not}
use mathlib.Core.List.{List}
use Prim.Native.Nat.{ℕ, ◌<◌}
use native.Mathlib.Omega.{arith}
use lib.ListN.{get_or}
use Rattle.laws.specs.Tests.{differ, below, every, is_equal, not_equal, is_below, not_below}
use Rattle.laws.specs.Marks.{Marks, unused}
use Rattle.laws.specs.Faults.{rule, kept, rule_go, rule_stop}
use Rattle.protocol.specs.Terms.{most_ballots}
use Rattle.protocol.specs.Record.{position_of, shift_of}
use Rattle.protocol.specs.Rules.{link_rules}
use Rattle.rules.proofs.link_rules.Goals as goal
use Rattle.rules.proofs.link_rules.Goals.{After-read2-position, After-read4, Else-marks-position, Else-read2-j, then-read1-l-via-then-read1-l, then-read1-l-via-else-read1-l+then-read2-j, then-p-position-via-then-p-position, then-p-position-via-else-p-position+then-marks-position}

pub returns-then-read1-l : goal.returns-then-read1-l
unfolding link_rules
returns-then-read1-l c =
    rw (← c.requires.here)
    (elim c.then-read1-l.branch [
      | then-read1-l-via-then-read1-l w ↦ rule_stop 4 _ _ (not_equal (λ e. omega arith))
      | then-read1-l-via-else-read1-l+then-read2-j w ↦ rule_go 4 _ _ (is_equal (omega arith)) (rule_stop 4 _ _ (not_equal (λ e. omega arith)))
    ])

-- list and ballot are the due ones: the other rules are left
named : (c : Else-read2-j) {k : ℕ} →
    (let p = c.args.p in
    let r = c.args.bytes.now in
    let l = c.args.l in
    let j = c.args.j in
    k ≡ rule 9 (below (position_of p r l j) p.ballots) (rule 9 (every (λ i. differ (position_of p r l i) (position_of p r l j)) j) (rule 10 (below (shift_of p r l j) p.modulus) kept)) → k ≡ link_rules p r l j)
unfolding link_rules
named c h = rw (← c.requires.here) (rule_go 4 _ _ (is_equal (omega arith)) (rule_go 4 _ _ (is_equal (omega arith)) h))

position_read : (c : After-read2-position) → c.read2-position.result ≡ position_of c.args.p c.args.bytes.now c.args.l c.args.j
unfolding position_of
position_read c = rw (← c.requires.here) c.read2-position.ensures.0

-- what the mark of the position tells
mark : {f : ℕ → ℕ} {j k : ℕ} {marks : List Bool} → Marks most_ballots f j marks → k ≡ f j → k < most_ballots →
    every (λ i. differ (f i) (f j)) j ≡ not (get_or marks k false)
unfolding unused
mark {k = k} m e h = rw (← e) (sym (m.clear k h))

pub returns-then-p-position : goal.returns-then-p-position
returns-then-p-position c =
    let read = position_read (goal.at.returns-then-p-position c).After-read2-position in
    named (goal.at.returns-then-p-position c).Else-read2-j
    (elim c.then-p-position.branch [
      | then-p-position-via-then-p-position w ↦ rule_stop 9 _ _ (not_below (omega arith))
      | then-p-position-via-else-p-position+then-marks-position w ↦
          rule_go 9 _ _ (is_below (omega arith))
          (rule_stop 9 _ _ (mark c.requires.known.marked read (omega arith) ∙ ap not w.if-marks-position.true))
    ])

-- the position is free: rule 10 is left
free : (c : Else-marks-position) {k : ℕ} →
    (let p = c.args.p in
    let r = c.args.bytes.now in
    let l = c.args.l in
    let j = c.args.j in
    k ≡ rule 10 (below (shift_of p r l j) p.modulus) kept → k ≡ link_rules p r l j)
free c h = named (goal.at.Else-marks-position c).Else-read2-j (rule_go 9 _ _ (is_below (omega (arith, position_read (goal.at.Else-marks-position c).After-read2-position))) (rule_go 9 _ _ (mark c.requires.known.marked (position_read (goal.at.Else-marks-position c).After-read2-position) (omega arith) ∙ ap not c.if-marks-position.false) h))

shift_read : (c : After-read4) → c.read4.result ≡ shift_of c.args.p c.args.bytes.now c.args.l c.args.j
unfolding shift_of
shift_read c = rw (← c.requires.here) c.read4.ensures.0

pub returns-then-p-read4 : goal.returns-then-p-read4
returns-then-p-read4 c = free (goal.at.returns-then-p-read4 c).Else-marks-position (rule_stop 10 _ _ (not_below (omega (arith, shift_read (goal.at.returns-then-p-read4 c).After-read4))))

pub returns : goal.returns
returns c = free (goal.at.returns c).Else-marks-position (rule_go 10 _ _ (is_below (omega (arith, shift_read (goal.at.returns c).After-read4))) refl)
