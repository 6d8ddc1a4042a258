-- `rules::first_rules` meets its contract: the parameters are in their limits or not.
use mathlib.Core.Path.{◌≡◌, refl, sym, ap, ◌∙◌}
use Rattle.laws.specs.Faults.{rule_go, rule_stop}
use Rattle.protocol.specs.Terms.{in_limits}
use Rattle.protocol.specs.Record.{parameters_of}
use Rattle.protocol.specs.Rules.{first_rules}
use Rattle.rules.proofs.first_rules.Goals as goal
use Rattle.rules.proofs.first_rules.Goals.{After-in_limits}

limits_read : (c : After-in_limits) → c.in_limits.result ≡ in_limits (parameters_of c.args.bytes.now)
limits_read c = c.in_limits.ensures ∙ ap in_limits c.parameters.ensures

pub returns-then-not-in_limits : goal.returns-then-not-in_limits
unfolding first_rules in_limits
returns-then-not-in_limits c = rule_stop 3 _ _ (sym (limits_read (goal.at.returns-then-not-in_limits c).After-in_limits) ∙ c.if-not-in_limits.true)

pub returns : goal.returns
unfolding first_rules in_limits
returns c = rule_go 3 _ _ (sym (limits_read (goal.at.returns c).After-in_limits) ∙ c.if-not-in_limits.false) refl
