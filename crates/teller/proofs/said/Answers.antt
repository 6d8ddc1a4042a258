-- `teller::said` meets its contract: what is left of the argument, behind the number read so far, says what the whole says.
use mathlib.Core.Path.{◌≡◌}
use mathlib.Core.Logic.{◌≢◌, ◌⊎◌, inl, inr}
use Prim.Native.Nat.{◌+◌, ◌-◌, ◌*◌, ◌≤◌, ◌<◌, min}
use native.Mathlib.Omega.{arith}
use lib.ListN.{length, get_or}
use Rattle.std.proofs.lemmas.Grind.{common_steps}
use Rattle.teller.proofs.Reading.{empty_says, none_said, low_says, high_says, one_said, all_said}
use Rattle.teller.proofs.said.Goals as goal

pub returns-then-is_empty : goal.returns-then-is_empty
returns-then-is_empty c = let e : length c.args.argument.now ≡ 0 = grind (arith, common_steps) in empty_says _ e

pub loop-character-init : goal.loop-character-init
loop-character-init c = let e : length c.args.argument.now ≢ 0 = grind (arith, common_steps) in none_said _ e

pub returns-then-not-is_ascii_digit : goal.returns-then-not-is_ascii_digit
returns-then-not-is_ascii_digit c =
    let character = get_or c.args.argument.now c.loop-character.character-index 0 in
    let h : (character < 48) ⊎ (57 < character) = grind (arith, common_steps) in
    elim h [
      | inl low ↦ low_says _ c.loop-character.invariant c.loop-character-test.true low
      | inr high ↦ high_says _ c.loop-character.invariant c.loop-character-test.true high
    ]

pub loop-character-preserved : goal.loop-character-preserved
loop-character-preserved c =
    let character = get_or c.args.argument.now c.loop-character.character-index 0 in
    let digit : (48 ≤ character) × (character ≤ 57) = grind (arith, common_steps) in
    let e : c.min-number.result ≡ min 10 (c.loop-character.number * 10 + (character - 48)) = grind (arith, common_steps) in
    one_said _ c.loop-character.invariant c.loop-character-test.true digit.0 digit.1 _ e

pub returns : goal.returns
returns c = all_said _ c.loop-character.invariant (omega arith)
