-- `runoff::counts_for` meets its contract: the digits that were read are the end of a ranking that stands.
use mathlib.Core.Logic.{◌⊎◌, inl, inr}
use mathlib.Core.Path.{sym, ◌∙◌}
use Prim.Native.Nat.{◌%◌, ◌≤◌, ◌<◌}
use native.Mathlib.Omega.{arith}
use Rattle.std.proofs.lemmas.Grind.{common_steps}
use Rattle.runoff.proofs.Outcomes.{picked, unpicked}
use Rattle.runoff.proofs.Rankings.{none_read, zero_fails, high_fails, repeated_fails, one_read, all_read}
use Rattle.runoff.proofs.counts_for.Goals.{then-not-contains-via-then-not-contains, then-not-contains-via-else-not-contains+then-named-k}
use Rattle.runoff.proofs.counts_for.Goals as goal

pub loop-rest-init : goal.loop-rest-init
loop-rest-init c = none_read _ _ _ (omega arith)

pub returns-then-not-contains : goal.returns-then-not-contains
returns-then-not-contains c =
    let read = c.loop-rest.invariant in
    let more = c.loop-rest-test.true in
    elim c.then-not-contains.branch [
      | then-not-contains-via-then-not-contains w ↦
          let h : (c.loop-rest.rest % 10 < 1) ⊎ (c.args.candidates < c.loop-rest.rest % 10) = grind (arith, common_steps) in
          elim h [ inl low ↦ zero_fails _ _ _ read more (omega arith) | inr high ↦ high_fails _ _ _ read more high ]
      | then-not-contains-via-else-not-contains+then-named-k w ↦ repeated_fails _ _ _ read more w.if-named-k.true
    ]

pub loop-rest-preserved-then-stands : goal.loop-rest-preserved-then-stands
loop-rest-preserved-then-stands c =
    let digit : (1 ≤ c.loop-rest.rest % 10) × (c.loop-rest.rest % 10 ≤ c.args.candidates) = grind (arith, common_steps) in
    one_read _ _ _ c.loop-rest.invariant c.loop-rest-test.true (omega arith) digit.1 c.if-named-k.false _
    (sym (picked _ _ (sym c.stands.ensures ∙ c.if-stands.true)))

pub loop-rest-preserved : goal.loop-rest-preserved
loop-rest-preserved c =
    let digit : (1 ≤ c.loop-rest.rest % 10) × (c.loop-rest.rest % 10 ≤ c.args.candidates) = grind (arith, common_steps) in
    one_read _ _ _ c.loop-rest.invariant c.loop-rest-test.true (omega arith) digit.1 c.if-named-k.false _
    (sym (unpicked _ _ (sym c.stands.ensures ∙ c.if-stands.false)))

pub returns : goal.returns
returns c = all_read _ _ _ c.loop-rest.invariant c.loop-rest-test.false
