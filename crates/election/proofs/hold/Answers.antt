-- `election::hold` meets its contract: inputs that are not refused give a record that the judge accepts, so that it never rejects.
use mathlib.Core.Path.{sym}
use Rattle.std.proofs.Common.{subst}
use Rattle.protocol.specs.Inputs.{Slices}
use Rattle.protocol.proofs.Goodness.{FourBytes}
use Rattle.election.proofs.Ending.{held_refused, held_accepted, never_rejected}
use Rattle.election.proofs.hold.Goals as goal
use Rattle.election.proofs.hold.Goals.{After-fit}

fits : (c : After-fit) → FourBytes c.args.s.now
fits c =
    subst (λ (s : Slices). FourBytes s) c.s.view_is
    (record { ids = c.fit.ensures.1; election = c.fit.ensures.0 })

pub returns-in-Err : goal.returns-in-Err
returns-in-Err c = held_refused _ _ _ c.in-Err.ensures

pub returns-in-Ok : goal.returns-in-Ok
returns-in-Ok c = held_accepted _ _ c.in_default.ensures (fits (goal.at.returns-in-Ok c).After-fit) c.write.ensures

pub returns-in-Err-judge_plainly : goal.returns-in-Err-judge_plainly
returns-in-Err-judge_plainly c =
    absurd (never_rejected _ _ _ _ _ c.in_default.ensures (fits (goal.at.returns-in-Err-judge_plainly c).After-fit) c.write.ensures (sym c.in-Err-judge_plainly.ensures))
