-- `runoff::run_off` meets its contract: what is refused, and what is counted and filled.
use mathlib.Core.Path.{◌≡◌}
use native.Mathlib.Omega.{arith}
use borrow.Author.Rules.{rules}
use Rattle.std.specs.Prelude.{Err}
use Rattle.runoff.proofs.Running.{fitting, refused, answered, won, filled}
use Rattle.runoff.proofs.run_off.Goals as goal

pub returns-in_err-refuse-clause-answer : goal.returns-in_err-refuse-clause-answer
returns-in_err-refuse-clause-answer c =
    let e : c.from_residual.result ≡ Err c.in_err-refuse.field-0.0 = search rules in
    rw e (refused _ _ _ _ c.in_err-refuse.ensures).0

pub returns-in_err-refuse-clause-table : goal.returns-in_err-refuse-clause-table
returns-in_err-refuse-clause-table c = (refused _ _ _ _ c.in_err-refuse.ensures).1

pub all_rounds-s-requires : goal.all_rounds-s-requires
all_rounds-s-requires c = (fitting _ _ c.in_ok-refuse.ensures).0

pub fill-requires : goal.fill-requires
fill-requires c = omega (arith, fitting _ _ c.in_ok-refuse.ensures)

pub spoiled_votes-requires : goal.spoiled_votes-requires
spoiled_votes-requires c = (fitting _ _ c.in_ok-refuse.ensures).0

pub returns-clause-answer : goal.returns-clause-answer
returns-clause-answer c =
    answered _ _ _ c.in_ok-refuse.ensures c.all_rounds-s.ensures c.by_number.ensures c.blank_votes.ensures c.spoiled_votes.ensures

pub returns-clause-winner : goal.returns-clause-winner
returns-clause-winner c = won _ _ _ c.in_ok-refuse.ensures c.all_rounds-s.ensures c.by_number.ensures

pub returns-clause-table : goal.returns-clause-table
returns-clause-table c = filled _ _ _ c.in_ok-refuse.ensures c.all_rounds-s.ensures c.fill.ensures
