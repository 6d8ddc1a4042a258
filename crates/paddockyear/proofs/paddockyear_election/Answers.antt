-- `paddockyear::paddockyear_election` meets its contract: it answers the number of what the entry answers.
use Rattle.std.specs.Prelude.{◌≡◌, Bool, true, false, List, ℕ, Option}
use Rattle.std.specs.Bool.{then_some}
use Rattle.std.proofs.Common.{ap, subst}
use denote.Ref.{Bor}
use Rattle.laws.specs.Tests.{differ}
use Rattle.protocol.specs.Answers.{Answer}
use Rattle.protocol.specs.Inputs.{Slices}
use Rattle.protocol.specs.Election.{Choice, choice_of}
use Rattle.protocol.specs.Election.{choice_in, sides_lent}
use Rattle.election.specs.Holding.{Buffers, lent, Held}
use Rattle.paddockyear.specs.Codes.{outcome_answer_lem}
use Rattle.paddockyear.proofs.paddockyear_election.Goals as goal

-- what is lent where a flag says so is chosen by that flag
mask_told : (given : Bool) (mask : ℕ) {told : Option ℕ} → told ≡ then_some given mask → choice_in told ≡ choice_of given mask
unfolding choice_of
mask_told true mask e = ap choice_in e
mask_told false mask e = ap choice_in e

sides_told : (given : Bool) (sides : Bor (List ℕ)) {told : Option (Bor (List ℕ))} → told ≡ then_some given sides → sides_lent told ≡ choice_of given sides.now
unfolding choice_of
sides_told true sides e = ap sides_lent e
sides_told false sides e = ap sides_lent e

held_so : (m : Option ℕ) (t : Option (Bor (List ℕ))) {s : Slices} {by_mask : Choice ℕ} {by_sides : Choice (List ℕ)} {dice₁ dice₂ : List ℕ} {was is : Buffers} {a : Answer}
    → choice_in m ≡ by_mask → sides_lent t ≡ by_sides → Held (lent s (choice_in m) dice₁ (sides_lent t) dice₂) was is a → Held (lent s by_mask dice₁ by_sides dice₂) was is a
held_so m t {s} {by_mask} {by_sides} {dice₁} {dice₂} {was} {is} {a} e f h =
    subst (λ (x : Choice ℕ). Held (lent s x dice₁ by_sides dice₂) was is a) e
    (subst (λ (y : Choice (List ℕ)). Held (lent s (choice_in m) dice₁ y dice₂) was is a) f h)

pub returns : goal.returns
unfolding differ
returns c =
    let by_mask = mask_told _ _ c.then_some.ensures in
    let by_sides = sides_told _ _ c.then_some-2.ensures in
    let held = held_so c.then_some.result c.then_some-2.result by_mask by_sides (rw c.parameters.ensures at c.hold.ensures) in
    rw (outcome_answer_lem _ _ _ held.answers held.accepts c.outcome_code.ensures) held
