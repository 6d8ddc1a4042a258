-- `verifier::part_two::link_faults` meets its contract: no link passed has a fault, and the marks are those of their positions.
use mathlib.Core.Path.{◌≡◌, refl, sym, ap, ◌∙◌}
use mathlib.Core.Bool.{Bool, true}
use mathlib.Core.List.{List}
use Prim.Native.Nat.{ℕ, ◌+◌, ◌≤◌, ◌<◌}
use native.Mathlib.Omega.{arith}
use borrow.Author.Rules.{rules}
use lib.ListN.{length, set, length-set}
use Rattle.laws.specs.Faults.{first_more, row_start, row_end}
use Rattle.laws.specs.Marks.{Marks, none_marked, one_marked}
use Rattle.laws.specs.Masks.{set_before}
use Rattle.protocol.specs.declared.Due.TheVariants.{Link}
use Rattle.protocol.specs.Layout.{at_link}
use Rattle.protocol.specs.Record.{mask_of, link_place, position_of}
use Rattle.protocol.specs.Judging.{link_faults}
use Rattle.protocol.specs.Rules.{fault}
use Rattle.protocol.specs.Terms.{most_ballots}
use Rattle.verifier.proofs.Known.{stands_whole, link_position_lem, mask_there}
use Rattle.verifier.proofs.Stages.{found_nothing, row_err}
use Rattle.verifier.proofs.part_two.link_faults.Goals as goal
use Rattle.verifier.proofs.part_two.link_faults.Goals.{After-at_link-at, After-rank-rank, After-read2-position, In_ok-link_fault}

-- the mark of the position that was read
one_more : {perm : ℕ → ℕ} {j q : ℕ} {marks : List Bool} → Marks most_ballots perm j marks → q ≡ perm j → q < length marks → Marks most_ballots perm (j + 1) (set marks q true)
one_more {perm} {j} {q} {marks} m e h = rw e (one_marked m (omega arith))

pub loop-j-init : goal.loop-j-init
loop-j-init c = record { none = row_start _; long = refl; marked = none_marked _ _ }

pub mask-requires : goal.mask-requires
mask-requires c = mask_there c.requires.0

pub rank-rank-requires : goal.rank-rank-requires
rank-rank-requires c = let s = c in omega (arith, s.requires.1, s.requires.0.few.compared)

-- how many compared lists come before
ranked : (c : After-rank-rank) →
    (let s = c.args in (c.rank-rank.result ≡ set_before (mask_of s.r.parameters s.r.bytes.now) s.l) × (c.rank-rank.result ≤ s.l))
ranked c = (c.rank-rank.ensures.0 ∙ ap (λ (m : ℕ). set_before m c.args.l) c.mask.ensures, c.rank-rank.ensures.2)

pub at_link-at-requires : goal.at_link-at-requires
at_link-at-requires c = let s = c in (s.requires.0.few, (omega (arith, ranked (goal.at.at_link-at-requires c).After-rank-rank, s.requires.1, s.requires.0.few.compared), omega arith))

-- a link's place is by its list's rank
place : (c : After-at_link-at) →
    (let s = c.args in c.at_link-at.result ≡ link_place s.r.parameters s.r.bytes.now s.l c.loop-j.j)
unfolding link_place
place c = let s = c in c.at_link-at.ensures.0 ∙ ap (λ (k : ℕ). at_link s.args.r.parameters k c.loop-j.j) (ranked (goal.at.After-at_link-at c).After-rank-rank).0

pub link_fault-requires : goal.link_fault-requires
link_fault-requires c = (place (goal.at.link_fault-requires c).After-at_link-at, search rules)

pub returns-in_err-link_fault : goal.returns-in_err-link_fault
unfolding link_faults
returns-in_err-link_fault c = row_err _ _ c.loop-j.j c.loop-j-test.true c.loop-j.invariant.none c.in_err-link_fault.ensures (grind arith)

-- the link stands
stands : (c : In_ok-link_fault) →
    (let s = c.args in fault s.r.parameters s.r.bytes.now s.r.drawn (Link s.l c.loop-j.j) ≡ 0)
stands c = (found_nothing _ _ _ _).0 (sym c.in_ok-link_fault.ensures)

pub overflow_add-at : goal.overflow_add-at
overflow_add-at c = omega (arith, c.at_link-at.ensures.1)

pub read2-position-requires : goal.read2-position-requires
read2-position-requires c =
    let s = c.args in
    omega (arith, stands_whole s.r.drawn s.r.parameters s.r.bytes.now (Link s.l c.loop-j.j) (stands (goal.at.read2-position-requires c).In_ok-link_fault), place (goal.at.read2-position-requires c).After-at_link-at)

pub overflow_cast-position : goal.overflow_cast-position
overflow_cast-position c = omega (arith, c.read2-position.ensures.1)

-- the position that the link names
position : (c : After-read2-position) →
    (let s = c.args in c.read2-position.result ≡ position_of s.r.parameters s.r.bytes.now s.l c.loop-j.j)
unfolding position_of
position c = rw (← place (goal.at.After-read2-position c).After-at_link-at) c.read2-position.ensures.0

marked : (c : After-read2-position) → c.read2-position.result < most_ballots
marked c =
    let s = c in
    omega (arith, position c, link_position_lem s.args.r.drawn s.args.r.parameters s.args.r.bytes.now s.args.l c.loop-j.j (stands (goal.at.After-read2-position c).In_ok-link_fault), s.requires.0.few.ballots)

pub bounds-marks-position : goal.bounds-marks-position
bounds-marks-position c = marked c

pub loop-j-preserved : goal.loop-j-preserved
loop-j-preserved c =
    let before = c.loop-j.invariant in
    record {
      none = first_more _ _ before.none (sym c.in_ok-link_fault.ensures);
      long = length-set c.loop-j.marks c.read2-position.result true ∙ before.long;
      marked = one_more before.marked (position c) (omega (arith, before.long, marked c));
    }

pub returns : goal.returns
unfolding link_faults
returns c = row_end _ _ c.loop-j.j (omega arith) (omega arith) c.loop-j.invariant.none
