-- `verifier::part_two::link_faults` meets its contract: no link passed has a fault, and the marks are those of their positions.
use mathlib.Core.Path.{◌≡◌}
use lib.ListN.{length}
use Rattle.laws.specs.Faults.{Nothing, first}
use Rattle.laws.specs.Marks.{Marks}
use Rattle.protocol.specs.declared.Due.TheVariants.{Link}
use Rattle.protocol.specs.Record.{position_of}
use Rattle.protocol.specs.Judging.{found}
use Rattle.protocol.specs.Terms.{most_ballots}
use Rattle.verifier.proofs.part_two.link_faults.Given as goal

abbrev pub invariant-loop-j : goal.invariant-loop-j
invariant-loop-j l = record {
  none : first (λ j. found l.r.drawn l.r.parameters l.r.bytes.now (Link l.l j)) l.j ≡ Nothing;
  long : length l.marks ≡ most_ballots;
  marked : Marks most_ballots (position_of l.r.parameters l.r.bytes.now l.l) l.j l.marks;
}
