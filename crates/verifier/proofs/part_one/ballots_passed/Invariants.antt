-- `verifier::part_one::ballots_passed` meets its contract: no ballot passed has a fault.
use mathlib.Core.Path.{◌≡◌}
use Rattle.laws.specs.Faults.{Nothing, first}
use Rattle.protocol.specs.declared.Due.TheVariants.{Ballot}
use Rattle.protocol.specs.Judging.{found}
use Rattle.verifier.proofs.part_one.ballots_passed.Given as goal

abbrev pub invariant-loop-j : goal.invariant-loop-j
invariant-loop-j l = first (λ j. found l.r.drawn l.r.parameters l.r.bytes.now (Ballot j)) l.j ≡ Nothing
