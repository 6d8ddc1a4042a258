-- `verifier::head_fault` meets its contract: the first command, and then the ballots that its parameters say.
use mathlib.Core.Path.{◌≡◌, sym}
use mathlib.Core.Bool.{false}
use native.Mathlib.Omega.{arith}
use Rattle.protocol.specs.declared.Due.TheVariants.{First}
use Rattle.protocol.specs.Record.{parameters_of}
use Rattle.protocol.specs.Rules.{fault}
use Rattle.verifier.proofs.Known.{stands_whole, started}
use Rattle.verifier.proofs.Stages.{found_nothing, err_then, ok_then}
use Rattle.verifier.proofs.Verdicts.{ballots_alike}
use Rattle.verifier.proofs.head_fault.Goals as goal
use Rattle.verifier.proofs.head_fault.Goals.{In_ok-first_command_fault}

pub returns-in_err-first_command_fault : goal.returns-in_err-first_command_fault
returns-in_err-first_command_fault c = err_then _ _ c.in_err-first_command_fault.ensures (grind arith)

-- the first command stands
stands : (c : In_ok-first_command_fault) → (let s = c.args in fault (parameters_of s.bytes.now) s.bytes.now false First ≡ 0)
stands c = (found_nothing _ _ _ _).0 (sym c.in_ok-first_command_fault.ensures)

pub parameters-p-requires : goal.parameters-p-requires
parameters-p-requires c =
    let r = c.args.bytes.now in
    omega (arith, stands_whole false (parameters_of r) r First (stands (goal.at.parameters-p-requires c).In_ok-first_command_fault))

pub ballot_faults-requires : goal.ballot_faults-requires
ballot_faults-requires c = (started false _ c.args.bytes.now (stands (goal.at.ballot_faults-requires c).In_ok-first_command_fault) c.parameters-p.ensures).few.ballots

pub returns : goal.returns
returns c = ok_then _ _ c.in_ok-first_command_fault.ensures (ballots_alike false c.args.bytes.now c.parameters-p.ensures c.ballot_faults.ensures)
