-- `runoff::fewest_among` meets its contract: who leaves among the first n candidates.
use mathlib.Core.Path.{refl, sym, ◌∙◌}
use native.Mathlib.Omega.{arith}
use Rattle.protocol.specs.Terms.{item}
use Rattle.runoff.specs.Rounds.{fewest_among}
use Rattle.runoff.proofs.Outcomes.{some_one, fewest_within, fewest_gone, fewest_new, fewest_old}
use Rattle.runoff.proofs.fewest_among.Goals.{then-stands+then-leaves_rather, else-stands, else-stands-via-then-stands+else-leaves_rather, else-stands-via-else-stands}
use Rattle.runoff.proofs.fewest_among.Goals as goal

pub loop-n-init : goal.loop-n-init
unfolding fewest_among
loop-n-init c = refl

pub leaves_rather-requires : goal.leaves_rather-requires
leaves_rather-requires c = (
  omega arith,
  λ x e.
      let (a, b) = some_one _ c.loop-n.invariant e in
      (a, omega (arith, b, fewest_within c.args.left.now (item c.args.counts.now) c.loop-n.n)),
)

pub loop-n-preserved : goal.loop-n-preserved
loop-n-preserved c =
    let h = c.loop-n.invariant in
    elim c.if-stands.branch [
      | then-stands+then-leaves_rather w ↦ w.fewest-is ∙ fewest_new _ _ _ h w.leaves_rather.ensures (sym c.stands.ensures ∙ w.if-stands.true) w.if-leaves_rather.true
      | else-stands w ↦
          w.fewest-is
          ∙ elim w.else-stands.branch [
            | else-stands-via-then-stands+else-leaves_rather v ↦ fewest_old _ _ _ h v.leaves_rather.ensures v.if-leaves_rather.false
            | else-stands-via-else-stands v ↦ fewest_gone _ _ _ h (sym c.stands.ensures ∙ v.if-stands.false)
          ]
    ]
