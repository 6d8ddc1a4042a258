-- `verifier::first_command_fault` meets its contract: its rule needs no parameters but the form's byte.
use mathlib.Core.Path.{refl, ◌∙◌}
use Rattle.verifier.proofs.Verdicts.{first_alike}
use Rattle.verifier.proofs.first_command_fault.Goals as goal

pub command_fault-requires : goal.command_fault-requires
command_fault-requires c = (refl, c.due_form.ensures)

pub returns : goal.returns
returns c = c.command_fault.ensures ∙ first_alike _ _ _ c.due_form.ensures
