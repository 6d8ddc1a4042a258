-- `results::receipts::receipt_among` meets its contract: the answer of the ballots passed.
use mathlib.Core.Path.{◌≡◌}
use Rattle.protocol.specs.Answers.{receipt_values}
use Rattle.protocol.specs.Results.{receipt_among}
use Rattle.results.proofs.receipts.receipt_among.Given as goal

abbrev pub invariant-loop-j : goal.invariant-loop-j
invariant-loop-j l = receipt_values l.answer ≡ receipt_among l.p l.bytes l.printed l.j
