-- `wire::same_bytes` meets its contract. The loop: `equal` says whether the bytes passed are equal.
use mathlib.Core.Path.{◌≡◌, refl, sym, ap, ◌∙◌}
use native.Mathlib.Omega.{arith}
use lib.ListN.{length}
use Rattle.laws.specs.Tests.{equal, every, every_turn, same, same_iff, same_every, refuted}
use Rattle.wire.proofs.same_bytes.Goals as goal

pub returns-then-a-b : goal.returns-then-a-b
returns-then-a-b c =
    let a = c.args.a.now in
    let b = c.args.b.now in
    sym (refuted (same a b) (λ e. omega (arith, ap length ((same_iff a b).0 e))))

pub loop-i-init : goal.loop-i-init
unfolding every
loop-i-init c = refl

pub loop-i-preserved : goal.loop-i-preserved
unfolding equal
loop-i-preserved c = every_turn _ _ c.loop-i.invariant

pub returns : goal.returns
returns c =
    let a = c.args.a.now in
    let b = c.args.b.now in
    let e : c.loop-i.i ≡ length a = omega arith in
    rw e at c.loop-i.invariant ∙ sym (same_every a b (omega arith))
