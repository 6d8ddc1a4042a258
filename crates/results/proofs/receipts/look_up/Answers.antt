-- `results::receipts::look_up` meets its contract: the receipt's length, then the first command, then the ballots up to the one that stops it.
use mathlib.Core.Path.{sym}
use Rattle.protocol.specs.Answers.{rule_number}
use Rattle.results.proofs.Reaching.{first_whole, lookup_ready}
use Rattle.results.proofs.Looking.{lookup_short, lookup_refused, lookup_answered}
use Rattle.results.proofs.receipts.look_up.Goals as goal

pub returns-then-long-ne32 : goal.returns-then-long-ne32
returns-then-long-ne32 c = lookup_short _ _ c.if-long-ne32.true

pub parameters-requires : goal.parameters-requires
parameters-requires c = first_whole _ (sym c.in-Ok.ensures)

pub look_among-requires : goal.look_among-requires
look_among-requires c = lookup_ready _ (sym c.in-Ok.ensures) c.parameters.ensures c.if-long-ne32.false

pub returns-in-Err : goal.returns-in-Err
returns-in-Err c = lookup_refused _ _ (rule_number c.in-Err.fault.rule) c.if-long-ne32.false (sym c.in-Err.ensures)

pub returns-in-Ok : goal.returns-in-Ok
returns-in-Ok c = lookup_answered _ _ c.if-long-ne32.false (sym c.in-Ok.ensures) c.parameters.ensures c.look_among.ensures
