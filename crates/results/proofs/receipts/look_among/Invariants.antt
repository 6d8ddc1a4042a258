-- `results::receipts::look_among` meets its contract: no ballot passed has a fault, and each has a smaller id than the one sought.
use mathlib.Core.Path.{◌≡◌}
use Rattle.laws.specs.Faults.{Nothing, first}
use Rattle.results.proofs.Looking.{row, Passed}
use Rattle.results.proofs.receipts.look_among.Given as goal

abbrev pub invariant-loop-j : goal.invariant-loop-j
invariant-loop-j l = record { none : first (row l.p l.bytes l.printed) l.j ≡ Nothing; smaller : Passed l.p l.bytes l.printed l.j }
