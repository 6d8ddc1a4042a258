-- `runoff::is_spoiled` meets its contract.
use mathlib.Core.Path.{refl}
use Rattle.runoff.proofs.Rankings.{spoiled_is, blank_unspoiled}
use Rattle.runoff.proofs.is_spoiled.Goals as goal

pub returns-then-not-blank : goal.returns-then-not-blank
returns-then-not-blank c = spoiled_is _ _ c.requires c.if-not-blank.true c.counts_for.ensures c.is_none.ensures

pub returns-else-not-blank : goal.returns-else-not-blank
returns-else-not-blank c = rw c.if-not-blank.false (blank_unspoiled _ 0 refl)
