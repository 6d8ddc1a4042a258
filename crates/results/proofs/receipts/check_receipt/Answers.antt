-- `results::receipts::check_receipt` meets its contract: the receipt's length, then the judge's number, then the answer among all ballots.
use mathlib.Core.Path.{sym, ap}
use Rattle.protocol.specs.Answers.{done, rule_number}
use Rattle.results.proofs.Reaching.{head_whole, ballots_ready}
use Rattle.results.proofs.Receipting.{receipt_short, receipt_refused, receipt_answered}
use Rattle.results.proofs.receipts.check_receipt.Goals as goal

pub returns-then-printed-ne32 : goal.returns-then-printed-ne32
returns-then-printed-ne32 c = receipt_short _ _ c.if-printed-ne32.true

pub parameters-requires : goal.parameters-requires
parameters-requires c = head_whole _ (sym c.in-Ok.ensures)

pub receipt_among-requires : goal.receipt_among-requires
receipt_among-requires c = ballots_ready _ (sym c.in-Ok.ensures) c.parameters.ensures c.if-printed-ne32.false

pub returns-in-Err : goal.returns-in-Err
returns-in-Err c = receipt_refused _ _ (rule_number c.in-Err.fault.rule) c.if-printed-ne32.false (sym c.in-Err.ensures)

pub returns-in-Ok : goal.returns-in-Ok
returns-in-Ok c = receipt_answered _ _ c.if-printed-ne32.false (sym c.in-Ok.ensures) c.parameters.ensures (ap done c.receipt_among.ensures)
