-- `opening_rules::openings_give` meets its contract. The loop: the openings passed give their commitments.
use mathlib.Core.Path.{◌≡◌, refl, sym, ◌∙◌}
use Prim.Native.Nat.{◌+◌, ◌*◌, ◌≤◌}
use native.Mathlib.Omega.{arith}
use lib.ListN.{length}
use Rattle.laws.specs.Tests.{every, every_more, every_stop}
use Rattle.opening_rules.proofs.openings_give.Invariants.{right}
use Rattle.opening_rules.proofs.openings_give.Goals as goal
use Rattle.opening_rules.proofs.openings_give.Goals.{After-gives, In-loop-i}

-- the commitment of this turn lies in the record
posted_in : (c : In-loop-i) →
    (c.args.posted + 32 * (c.args.step * c.loop-i.i + c.args.from) + 32 ≤ length c.args.bytes.now)
posted_in c = c.requires.committed c.loop-i.i (omega arith)

-- what is asked of the commitment is what the definition asks
asked : (c : After-gives) →
    (let s = c.args in
    c.gives.result ≡ right s.p s.place s.bytes.now s.at s.posted s.from s.step c.loop-i.i)
asked c = rw c.in_slot-slot.ensures at c.gives.ensures

pub loop-i-init : goal.loop-i-init
unfolding every
loop-i-init c = refl

pub overflow_mul-q : goal.overflow_mul-q
overflow_mul-q c = omega (arith, posted_in c)

pub overflow_add-q : goal.overflow_add-q
overflow_add-q c = omega (arith, posted_in c)

pub overflow_mul-q-in-loop-i : goal.overflow_mul-q-in-loop-i
overflow_mul-q-in-loop-i c = omega (arith, posted_in (goal.at.overflow_mul-q-in-loop-i c).In-loop-i)

pub overflow_add-posted : goal.overflow_add-posted
overflow_add-posted c = omega (arith, posted_in (goal.at.overflow_add-posted c).In-loop-i)

pub gives-requires : goal.gives-requires
gives-requires c = (omega arith, posted_in (goal.at.gives-requires c).In-loop-i)

pub returns-then-not-gives : goal.returns-then-not-gives
returns-then-not-gives c =
    every_stop _ c.args.k c.loop-i.i (omega arith) (sym (asked (goal.at.returns-then-not-gives c).After-gives) ∙ c.if-not-gives.true)

pub loop-i-preserved : goal.loop-i-preserved
loop-i-preserved c =
    every_more _ c.loop-i.i c.loop-i.invariant (sym (asked (goal.at.loop-i-preserved c).After-gives) ∙ c.if-not-gives.false)

pub returns : goal.returns
returns c =
    let e : c.loop-i.i ≡ c.args.k = omega arith in
    sym (rw e at c.loop-i.invariant)
