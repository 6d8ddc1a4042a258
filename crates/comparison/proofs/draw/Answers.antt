-- `comparison::draw` meets its contract: what is not refused is ready to be drawn from.
use mathlib.Core.Path.{refl, ap, ◌∙◌}
use mathlib.Core.List.{[], ◌∷◌}
use Prim.Native.Nat.{ℕ}
use Rattle.std.proofs.lemmas.Result.{err_from_is_err_and}
use Rattle.protocol.specs.Answers.{done}
use Rattle.protocol.specs.Results.{drawn}
use Rattle.protocol.proofs.Answered.{rule_positive, refused_is, done_is}
use Rattle.comparison.proofs.Unrefused.{draw_ready}
use Rattle.comparison.proofs.draw.Goals as goal

pub returns-in_err-draw : goal.returns-in_err-draw
unfolding drawn
returns-in_err-draw c =
    let p = err_from_is_err_and c.from_residual.result c.from_residual.ensures.1 in
    rw (p.1, p.2) (refused_is _ _ _ c.in_err-draw.ensures (rule_positive _))

pub mask_of-requires : goal.mask_of-requires
mask_of-requires c = draw_ready _ _ _ c.in_ok-draw.ensures

pub returns : goal.returns
unfolding drawn
returns c = ap (λ (m : ℕ). done (m ∷ [])) c.mask_of.ensures ∙ done_is _ _ _ c.in_ok-draw.ensures refl
