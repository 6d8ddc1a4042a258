-- `verifier::part_three::half_faults` meets its contract: the ballot's own half, and then those of its linked entries.
use native.Mathlib.Omega.{arith}
use Rattle.std.proofs.Common.{sym}
use Rattle.protocol.specs.Judging.{half_faults}
use Rattle.verifier.proofs.Stages.{found_nothing, err_then, ok_then}
use Rattle.verifier.proofs.part_three.half_faults.Goals as goal

pub at_ballot_half-at-requires : goal.at_ballot_half-at-requires
at_ballot_half-at-requires c = let s = c in (s.requires.0.links.dice.few, omega (arith, s.requires.1, s.requires.0.links.dice.few.ballots))

pub drawn_fault-requires : goal.drawn_fault-requires
drawn_fault-requires c =
    let s = c in
    (c.at_ballot_half-at.ensures.0, record { few = s.requires.0.links.dice.few; ballot = s.requires.1; text_is = s.requires.0.text_is })

pub returns-in_err-drawn_fault : goal.returns-in_err-drawn_fault
unfolding half_faults
returns-in_err-drawn_fault c = err_then _ _ c.in_err-drawn_fault.ensures (grind arith)

pub list_half_faults-requires : goal.list_half_faults-requires
list_half_faults-requires c =
    let k = c.requires in
    record { links = k.0.links; ballot = k.1; half = (found_nothing _ _ _ _).0 (sym c.in_ok-drawn_fault.ensures) }

pub returns : goal.returns
unfolding half_faults
returns c = ok_then _ _ c.in_ok-drawn_fault.ensures c.list_half_faults.ensures
