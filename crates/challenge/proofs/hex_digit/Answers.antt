-- `challenge::hex_digit` meets its contract: a figure below 10, else a letter.
use mathlib.Core.Bool.{true, false}
use Rattle.laws.specs.Tests.{is_below, not_below}
use Rattle.challenge.proofs.Digits.{hex_is}
use Rattle.challenge.proofs.hex_digit.Goals as goal

pub returns-then-v-lt10 : goal.returns-then-v-lt10
returns-then-v-lt10 c = hex_is _ true (is_below c.if-v-lt10.true)

pub returns-else-v-lt10 : goal.returns-else-v-lt10
returns-else-v-lt10 c = hex_is _ false (not_below c.if-v-lt10.false)
