-- `refusals::all_permutations` meets its contract: the first c rows are permutations.
use mathlib.Core.Path.{◌≡◌, refl, sym, ap, ◌∙◌}
use mathlib.Core.List.{List}
use Prim.Native.Nat.{ℕ, suc, ◌+◌, ◌-◌, ◌*◌, ◌≤◌, ◌<◌}
use native.Mathlib.Nat.{mul-le-mul_right}
use native.Mathlib.Omega.{arith}
use lib.ListN.{length, take, drop}
use Rattle.laws.specs.Tests.{every, every_more, every_stop, told_true, told_false}
use Rattle.laws.specs.Chunks.{piece, length_piece}
use Rattle.protocol.specs.Terms.{item}
use Rattle.protocol.specs.Columns.{is_permutation}
use Rattle.refusals.specs.Contents.{permutations_in}
use Rattle.refusals.proofs.all_permutations.Invariants.{permutation_at}
use Rattle.refusals.proofs.all_permutations.Goals as goal

-- row c as it is lent
lent : (permutations : List ℕ) (c n : ℕ) → take (c * n + n - c * n) (drop (c * n) permutations) ≡ piece permutations (c * n) n
lent permutations c n = let e : c * n + n - c * n ≡ n = omega arith in rw e

-- row c ends before the rows do
row_ends : (c m n : ℕ) → c < 6 * m → c * n + n ≤ 6 * (m * n)
row_ends c m n h = omega (arith, mul-le-mul_right {m = suc c} {n = 6 * m} n h)

pub loop-c-init : goal.loop-c-init
unfolding every
loop-c-init c = refl

pub overflow_mul-from : goal.overflow_mul-from
overflow_mul-from c = omega (arith, row_ends c.loop-c.c c.args.p.compared c.args.p.ballots (omega arith))

pub overflow_add-from : goal.overflow_add-from
overflow_add-from c = omega (arith, row_ends c.loop-c.c c.args.p.compared c.args.p.ballots (omega arith))

pub offset_bounds-permutations-from : goal.offset_bounds-permutations-from
offset_bounds-permutations-from c = omega (arith, row_ends c.loop-c.c c.args.p.compared c.args.p.ballots (omega arith))

pub slice_bounds-is_permutation-end : goal.slice_bounds-is_permutation-end
slice_bounds-is_permutation-end c = omega (arith, row_ends c.loop-c.c c.args.p.compared c.args.p.ballots (omega arith))

pub is_permutation-requires : goal.is_permutation-requires
is_permutation-requires c =
    let n = c.args.p.ballots in
    let rows = c.args.permutations.now in
    let ends = row_ends c.loop-c.c c.args.p.compared n (omega arith) in
    (ap length (lent rows c.loop-c.c n) ∙ length_piece rows (c.loop-c.c * n) n (omega (arith, ends)), c.requires.0.ballots)

pub returns-then-not-is_permutation : goal.returns-then-not-is_permutation
unfolding permutations_in
returns-then-not-is_permutation c =
    let at = c in
    let args = at.args in
    every_stop (permutation_at args.p.ballots args.permutations.now) _ at.loop-c.c (omega arith)
    (sym (ap (λ (l : List ℕ). is_permutation args.p.ballots (item l)) (lent args.permutations.now at.loop-c.c args.p.ballots)) ∙ told_false c.is_permutation.ensures c.if-not-is_permutation.true)

pub loop-c-preserved : goal.loop-c-preserved
loop-c-preserved c =
    let at = c in
    let args = at.args in
    every_more (permutation_at args.p.ballots args.permutations.now) at.loop-c.c at.loop-c.invariant
    (sym (ap (λ (l : List ℕ). is_permutation args.p.ballots (item l)) (lent args.permutations.now at.loop-c.c args.p.ballots)) ∙ told_true c.is_permutation.ensures c.if-not-is_permutation.false)

pub returns : goal.returns
unfolding permutations_in
returns c =
    let at = c in
    let e : at.loop-c.c ≡ 6 * at.args.p.compared = omega arith in
    sym (rw e at at.loop-c.invariant)
