-- `verifier::first_fault` meets its contract: the first command, and then the rest with its parameters.
use mathlib.Core.Path.{◌≡◌, sym}
use native.Mathlib.Omega.{arith}
use Rattle.protocol.specs.declared.Due.TheVariants.{First}
use Rattle.protocol.specs.Judging.{first_fault}
use Rattle.protocol.specs.Record.{parameters_of}
use Rattle.protocol.specs.Rules.{fault}
use Rattle.verifier.proofs.Known.{stands_whole, started}
use Rattle.verifier.proofs.Stages.{found_nothing, err_then, ok_then}
use Rattle.verifier.proofs.Verdicts.{rest_alike}
use Rattle.verifier.proofs.first_fault.Goals as goal
use Rattle.verifier.proofs.first_fault.Goals.{In_ok-first_command_fault}

pub returns-in_err-first_command_fault : goal.returns-in_err-first_command_fault
unfolding first_fault
returns-in_err-first_command_fault c = err_then _ _ c.in_err-first_command_fault.ensures (grind arith)

-- the first command stands
stands : (c : In_ok-first_command_fault) → (let s = c.args in fault (parameters_of s.bytes.now) s.bytes.now s.drawn First ≡ 0)
stands c = (found_nothing _ _ _ _).0 (sym c.in_ok-first_command_fault.ensures)

pub parameters-requires : goal.parameters-requires
parameters-requires c =
    let r = c.args.bytes.now in
    omega (arith, stands_whole c.args.drawn (parameters_of r) r First (stands (goal.at.parameters-requires c).In_ok-first_command_fault))

pub rest_faults-requires : goal.rest_faults-requires
rest_faults-requires c = started c.args.drawn _ c.args.bytes.now (stands (goal.at.rest_faults-requires c).In_ok-first_command_fault) c.parameters.ensures

pub returns : goal.returns
unfolding first_fault
returns c = ok_then _ _ c.in_ok-first_command_fault.ensures (rest_alike c.args.drawn c.args.bytes.now c.parameters.ensures c.rest_faults.ensures)
