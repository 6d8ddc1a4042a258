-- `verifier::part_one::ballot_faults` meets its contract: no ballot passed has a fault by itself.
use mathlib.Core.Path.{◌∙◌}
use Rattle.verifier.proofs.Ballots.{read}
use Rattle.verifier.proofs.part_one.ballot_faults.Goals as goal

pub returns : goal.returns
returns c = c.stopping_fault.ensures ∙ read c.ballots_passed-stop.ensures
