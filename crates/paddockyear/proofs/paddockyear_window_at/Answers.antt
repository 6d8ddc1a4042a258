-- `paddockyear::paddockyear_window_at` meets its contract, case by case.
use mathlib.Core.Path.{◌≡◌, ap, ◌∙◌}
use mathlib.Core.List.{[], ◌∷◌}
use Prim.Native.Nat.{ℕ}
use Rattle.std.specs.Prelude.{Option, Some, None, MatchOption}
use Rattle.protocol.specs.Answers.{done, refused}
use Rattle.schedule.specs.declared.Phase.{Phase}
use Rattle.schedule.specs.Windows.{window_at, phase_number, phase_in}
use Rattle.paddockyear.specs.Codes.{refused_one, done_one}
use Rattle.paddockyear.proofs.paddockyear_window_at.Goals as goal

number_is : (p : Option Phase) (n : ℕ) → MatchOption p (n ≡ 0) (λ x. n ≡ phase_number x) → n ≡ phase_in p
number_is None n h = h
number_is (Some x) n h = h

pub returns-in-Ok : goal.returns-in-Ok
unfolding window_at
returns-in-Ok c = done_one _ _ _ _ (ap (λ (k : ℕ). done (k ∷ [])) (number_is _ _ c.map_or.ensures) ∙ c.in-Ok.ensures)

pub returns-in-Err : goal.returns-in-Err
unfolding window_at
returns-in-Err c = refused_one _ _ _ _ (ap refused c.number.ensures.0 ∙ c.in-Err.ensures)
