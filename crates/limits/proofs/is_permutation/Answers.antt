-- `limits::is_permutation` meets its contract: the numbers passed are places below n, each once, and those are marked.
use mathlib.Core.Path.{◌≡◌, refl, sym, ap, ◌∙◌}
use mathlib.Core.Bool.{not}
use native.Mathlib.Omega.{arith}
use lib.ListN.{length-set}
use Rattle.laws.specs.Tests.{every, every_more, every_stop}
use Rattle.protocol.specs.Terms.{item}
use Rattle.protocol.specs.Columns.{is_permutation}
use Rattle.laws.specs.Marks.{unused, fresh, fresh_high, fresh_used, fresh_holds, none_marked, one_marked}
use Rattle.limits.proofs.is_permutation.Goals as goal
use Rattle.limits.proofs.is_permutation.Goals.{then-n-place-via-then-n-place, then-n-place-via-else-n-place+then-marks-place}

pub loop-number-init : goal.loop-number-init
unfolding every
loop-number-init c = (refl, (none_marked _ _, refl))

pub returns-then-n-place : goal.returns-then-n-place
unfolding is_permutation fresh unused
returns-then-n-place c =
    let n = c.args.n in
    let perm = item c.args.permutation.now in
    let i = c.loop-number.number-index in
    elim c.then-n-place.branch [
      | then-n-place-via-then-n-place w ↦ every_stop (fresh n perm) _ i (omega arith) (fresh_high n perm i w.if-n-place.true)
      | then-n-place-via-else-n-place+then-marks-place w ↦
          every_stop (fresh n perm) _ i (omega arith)
          (fresh_used n perm i (sym (c.loop-number.invariant.1.0.clear (perm i) (omega arith)) ∙ ap not w.if-marks-place.true))
    ]

pub loop-number-preserved : goal.loop-number-preserved
loop-number-preserved c =
    let n = c.args.n in
    let perm = item c.args.permutation.now in
    let i = c.loop-number.number-index in (
      simp length-set (omega arith),
      (
        one_marked c.loop-number.invariant.1.0 (omega arith),
        every_more (fresh n perm) i c.loop-number.invariant.1.1
            (fresh_holds n perm i (omega arith) (sym (c.loop-number.invariant.1.0.clear (perm i) (omega arith)) ∙ ap not c.if-marks-place.false)),
      ),
    )

pub returns : goal.returns
unfolding is_permutation fresh unused
returns c =
    let e : c.loop-number.number-index ≡ c.args.n = omega arith in
    sym (rw e at c.loop-number.invariant.1.1)
