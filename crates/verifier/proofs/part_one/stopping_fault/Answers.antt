-- `verifier::part_one::stopping_fault` meets its contract.
use mathlib.Core.Path.{sym, ◌∙◌}
use native.Mathlib.Omega.{arith}
use Rattle.verifier.proofs.Ballots.{stopped_there, stopped_nowhere}
use Rattle.verifier.proofs.part_one.stopping_fault.Goals as goal

pub returns-then-k-n : goal.returns-then-k-n
returns-then-k-n c = c.fault.ensures ∙ sym (stopped_there _ _ _ _ _ (omega arith))

pub returns : goal.returns
returns c = sym (stopped_nowhere _ _ _ _ _ (omega arith))
