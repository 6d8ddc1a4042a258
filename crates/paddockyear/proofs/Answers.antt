-- What the runoff's C face gives, by the number and the values of the answer that it is told.
use mathlib.Core.Path.{◌≡◌, ap, ◌∙◌}
use mathlib.Core.List.{List}
use Prim.Native.Nat.{ℕ}
use Rattle.laws.specs.Tests.{choose}
use Rattle.protocol.specs.Answers.{Answer}
use Rattle.std.specs.Prelude.{Result}
use Rattle.protocol.specs.declared.Rule.{Rule}
use Rattle.runoff.specs.declared.Counted.{Counted}
use Rattle.runoff.specs.Rounds.{runoff_answer, ran_off, runoff_refusal, winner, blank_votes, spoiled_votes}
use Rattle.paddockyear.specs.Codes.{code_of, value_in, code_is, value_is}

-- what `runoff_code` says of an answer, and what the face says of the runoff
abbrev pub Coded : Answer → ℕ → ℕ × (ℕ × ℕ) → ℕ × (ℕ × ℕ) → Type 0
Coded a code before after = (code ≡ code_of a) × ((after.0 ≡ value_in a 0 before.0) × ((after.1.0 ≡ value_in a 1 before.1.0) × (after.1.1 ≡ value_in a 2 before.1.1)))

module _ (candidates : ℕ) (votes : List ℕ) (long : ℕ) where
  abbrev pub Told : ℕ → ℕ × (ℕ × ℕ) → ℕ × (ℕ × ℕ) → Type 0 → Type 0
  Told code before after rest =
      (code ≡ runoff_refusal candidates long)
      × ((after.0 ≡ choose (runoff_refusal candidates long) (winner candidates votes) before.0)
      × ((after.1.0 ≡ choose (runoff_refusal candidates long) (blank_votes votes) before.1.0)
      × ((after.1.1 ≡ choose (runoff_refusal candidates long) (spoiled_votes candidates votes) before.1.1) × rest)))

  pub told : (r : Result Counted Rule) (code : ℕ) (before after : ℕ × (ℕ × ℕ)) {rest : Type 0} → runoff_answer r ≡ ran_off candidates votes long → Coded (runoff_answer r) code before after → rest → Told code before after rest
  unfolding ran_off
  told r code before after e h t = (
    h.0 ∙ ap code_of e ∙ code_is _ _,
    (
      h.1.0 ∙ ap (λ (a : Answer). value_in a 0 before.0) e ∙ value_is _ _ 0 _,
      (
        h.1.1.0 ∙ ap (λ (a : Answer). value_in a 1 before.1.0) e ∙ value_is _ _ 1 _,
        (h.1.1.1 ∙ ap (λ (a : Answer). value_in a 2 before.1.1) e ∙ value_is _ _ 2 _, t),
      ),
    ),
  )
