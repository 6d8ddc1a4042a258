-- `wire::compare32` meets its contract. The loop: the first k words are equal, as one number.
use mathlib.Core.Path.{◌≡◌, refl, sym, subst, ◌∙◌}
use Prim.Native.Nat.{ℕ, ◌+◌, ◌*◌}
use native.Mathlib.Omega.{arith}
use Rattle.laws.specs.Bytes.{number}
use Rattle.wire.specs.Comparing.{is_equal}
use Rattle.wire.proofs.Words.{word_first, word_same}
use Rattle.wire.proofs.compare32.Goals as goal

pub loop-k-init : goal.loop-k-init
unfolding number
loop-k-init c = refl

pub returns-then-p-q : goal.returns-then-p-q
returns-then-p-q c =
    c.cmp.ensures
    ∙ word_first c.args.a.now c.args.b.now c.args.i c.args.j (8 * c.loop-k.k) (λ i. omega (arith, c.shared_slice_known-1.given i))
    (λ i. omega (arith, c.shared_slice_known-2-1.given i)) (omega arith) c.loop-k.invariant c.read8-p.ensures.0 c.read8-q.ensures.0 (λ e. omega arith)

pub loop-k-preserved : goal.loop-k-preserved
loop-k-preserved c =
    let a = c.args.a.now in
    let b = c.args.b.now in
    let e : 8 * c.loop-k.k + 8 ≡ 8 * (c.loop-k.k + 1) = omega arith in
    subst (λ (w : ℕ). number a c.args.i w ≡ number b c.args.j w) e
    (word_same a b c.args.i c.args.j (8 * c.loop-k.k) c.loop-k.invariant c.read8-p.ensures.0 c.read8-q.ensures.0 (omega arith))

pub returns : goal.returns
returns c =
    let e : 8 * c.loop-k.k ≡ 32 = omega arith in
    sym (is_equal (subst (λ (w : ℕ). number c.args.a.now c.args.i w ≡ number c.args.b.now c.args.j w) e c.loop-k.invariant))
