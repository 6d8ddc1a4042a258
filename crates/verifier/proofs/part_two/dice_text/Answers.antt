-- `verifier::part_two::dice_text` meets its contract: the sponge has taken every byte before the dice command.
use mathlib.Core.Path.{◌≡◌, refl, ap, ◌∙◌}
use Prim.Native.Nat.{ℕ, ◌+◌, ◌-◌}
use native.Mathlib.Omega.{arith}
use lib.ListN.{take}
use Rattle.challenge.specs.Text.{text_challenge}
use Rattle.laws.specs.Chunks.{piece}
use Rattle.laws.specs.Tests.{never, told_false}
use Rattle.protocol.specs.Drawing.{challenge}
use Rattle.verifier.proofs.part_two.dice_text.Goals as goal
use Rattle.verifier.proofs.part_two.dice_text.Goals.{then-not-r-via-then-not-r, then-not-r-via-else-not-r+then-r-at}

pub returns-then-not-r : goal.returns-then-not-r
returns-then-not-r c = λ d w e.
    elim c.then-not-r.branch [
      | then-not-r-via-then-not-r plain ↦ absurd (never d (told_false refl plain.if-not-r.true))
      | then-not-r-via-else-not-r+then-r-at short ↦ absurd (omega (arith, w, short.if-r-at.true))
    ]

pub returns : goal.returns
returns c =
    let s = c.args in
    let r = s.r.bytes.now in
    let n : s.at + 31 - (s.at + 1) ≡ 30 = omega arith in
    λ d w e. c.text.ensures ∙ text_challenge _ _ e ∙ ap (λ (k : ℕ). challenge (piece r (s.at + 1) k) (take s.at r)) n
