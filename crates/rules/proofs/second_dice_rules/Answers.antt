-- `rules::second_dice_rules` meets its contract: the dice are fair or not.
use mathlib.Core.Path.{refl, sym, ◌∙◌}
use Rattle.laws.specs.Faults.{rule_go, rule_stop}
use Rattle.protocol.specs.Record.{second_dice_of}
use Rattle.protocol.specs.Rules.{second_dice_rules}
use Rattle.rules.proofs.second_dice_rules.Goals as goal

pub returns-then-not-fair : goal.returns-then-not-fair
unfolding second_dice_rules second_dice_of
returns-then-not-fair c = rw (← c.requires.0) (rule_stop 6 _ _ (sym c.fair_dice-fair.ensures ∙ c.if-not-fair.true))

pub returns : goal.returns
unfolding second_dice_rules second_dice_of
returns c = rw (← c.requires.0) (rule_go 6 _ _ (sym c.fair_dice-fair.ensures ∙ c.if-not-fair.false) refl)
