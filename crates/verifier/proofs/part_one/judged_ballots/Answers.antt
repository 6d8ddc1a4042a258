-- `verifier::part_one::judged_ballots` meets its contract: a copy among the ballots that pass, or the fault at which they stop.
use mathlib.Core.Path.{◌∙◌}
use native.Mathlib.Omega.{arith}
use Rattle.verifier.proofs.Ballots.{judged}
use Rattle.verifier.proofs.Known.{ballots_reach}
use Rattle.verifier.proofs.Stages.{err_then, ok_then}
use Rattle.verifier.proofs.part_one.judged_ballots.Goals as goal

pub first_copy-requires : goal.first_copy-requires
first_copy-requires c =
    let r = c.args.r in
    let h = c.ballots_passed-passed.ensures in
    (omega (arith, h.most), ballots_reach r.drawn r.parameters r.bytes.now _ c.requires.1 h.none)

pub returns-in_err-first_copy : goal.returns-in_err-first_copy
returns-in_err-first_copy c = err_then _ _ c.in_err-first_copy.ensures (grind arith) ∙ judged c.ballots_passed-passed.ensures

pub returns : goal.returns
returns c = ok_then _ _ c.in_ok-first_copy.ensures c.stopping_fault.ensures ∙ judged c.ballots_passed-passed.ensures
