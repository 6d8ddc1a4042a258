-- `verifier::part_three::full_faults` meets its contract: no full opening passed has a fault.
use mathlib.Core.Path.{◌≡◌, sym, ap, ◌∙◌}
use Prim.Native.Nat.{ℕ, ◌-◌}
use native.Mathlib.Omega.{arith}
use Rattle.laws.specs.Faults.{first_more, row_start, row_end}
use Rattle.laws.specs.Masks.{clear_before}
use Rattle.protocol.specs.Layout.{at_full_opening}
use Rattle.protocol.specs.Record.{mask_of, full_place}
use Rattle.protocol.specs.Judging.{full_faults}
use Rattle.verifier.proofs.Known.{mask_there, full_known}
use Rattle.verifier.proofs.Stages.{row_err}
use Rattle.verifier.proofs.part_three.full_faults.Goals as goal
use Rattle.verifier.proofs.part_three.full_faults.Goals.{After-at_full_opening-at, After-rank}

pub loop-i-init : goal.loop-i-init
loop-i-init c = row_start _

pub mask-requires : goal.mask-requires
mask-requires c = mask_there c.requires.0.dice

pub rank-requires : goal.rank-requires
rank-requires c = let s = c in omega (arith, s.requires.1, s.requires.0.dice.few.compared)

-- how many opened lists come before
ranked : (c : After-rank) →
    (let s = c.args in s.l - c.rank.result ≡ clear_before (mask_of s.r.parameters s.r.bytes.now) s.l)
ranked c = c.rank.ensures.1 ∙ ap (λ (m : ℕ). clear_before m c.args.l) c.mask.ensures

pub at_full_opening-at-requires : goal.at_full_opening-at-requires
at_full_opening-at-requires c =
    let s = c in
    let few = s.requires.0.dice.few in
    (few, (omega (arith, s.requires.1, few.compared), omega (arith, few.ballots)))

-- an opened list's place is by its rank
place : (c : After-at_full_opening-at) →
    (let s = c.args in c.at_full_opening-at.result ≡ full_place s.r.parameters s.r.bytes.now s.l c.loop-i.i)
unfolding full_place
place c =
    let s = c in
    c.at_full_opening-at.ensures.0 ∙ ap (λ (k : ℕ). at_full_opening s.args.r.parameters k c.loop-i.i) (ranked (goal.at.After-at_full_opening-at c).After-rank)

pub fault-requires : goal.fault-requires
fault-requires c =
    let s = c in
    (place (goal.at.fault-requires c).After-at_full_opening-at, full_known s.requires.0 s.requires.1 c.loop-i-test.true c.loop-i.invariant)

pub returns-in_err-fault : goal.returns-in_err-fault
unfolding full_faults
returns-in_err-fault c = row_err _ _ c.loop-i.i c.loop-i-test.true c.loop-i.invariant c.in_err-fault.ensures (grind arith)

pub loop-i-preserved : goal.loop-i-preserved
loop-i-preserved c = first_more _ _ c.loop-i.invariant (sym c.in_ok-fault.ensures)

pub returns : goal.returns
unfolding full_faults
returns c = row_end _ _ c.loop-i.i (omega arith) (omega arith) c.loop-i.invariant
