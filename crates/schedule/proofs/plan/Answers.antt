-- `schedule::plan` meets its contract.
use mathlib.Core.Path.{◌∙◌}
use Rattle.laws.specs.Tests.{told_true, told_false}
use Rattle.schedule.specs.Told.{plan}
use Rattle.schedule.proofs.plan.Goals as goal

pub returns-then-not-exists : goal.returns-then-not-exists
unfolding plan
returns-then-not-exists c = rw (told_false c.exists.ensures c.if-not-exists.true)

pub day_number-requires : goal.day_number-requires
day_number-requires c = told_true c.exists.ensures c.if-not-exists.false

pub returns : goal.returns
unfolding plan
returns c =
    c.plan_on.ensures ∙ rw (told_true c.exists.ensures c.if-not-exists.false, c.day_number.ensures.0)
