-- `verifier::part_three::full_faults` meets its contract: no full opening passed has a fault.
use mathlib.Core.Path.{◌≡◌}
use Rattle.laws.specs.Faults.{Nothing, first}
use Rattle.protocol.specs.declared.Due.TheVariants.{FullOpening}
use Rattle.protocol.specs.Judging.{found}
use Rattle.verifier.proofs.part_three.full_faults.Given as goal

abbrev pub invariant-loop-i : goal.invariant-loop-i
invariant-loop-i l = first (λ i. found l.r.drawn l.r.parameters l.r.bytes.now (FullOpening l.l i)) l.i ≡ Nothing
