-- `scrutineer::put_accepted` meets its contract: the first line, that of the election's number, and the tally behind them.
use mathlib.Core.Path.{ap}
use native.Mathlib.Omega.{arith}
use Rattle.laws.specs.Writing.{go_on, go_same}
use Rattle.protocol.specs.declared.Parameters.{Parameters}
use Rattle.protocol.specs.Results.{election_line, accepted_lines}
use Rattle.results.proofs.Paging.{election_length}
use Rattle.results.proofs.Reaching.{accepted_whole}
use Rattle.scrutineer.proofs.put_accepted.Goals as goal

pub parameters-p-requires : goal.parameters-p-requires
parameters-p-requires c = accepted_whole _ _ c.requires.0

pub put_result-requires : goal.put_result-requires
put_result-requires c = (
  c.requires.0,
  omega (
    arith,
    c.requires.1,
    election_length c.parameters-p.result.form,
    c.copy-at.ensures.to,
    c.copy-at.ensures.wrote.long,
    c.put_election-next.ensures.to,
    c.put_election-next.ensures.wrote.long,
  ),
)

pub returns : goal.returns
unfolding accepted_lines
returns c =
    go_on
    (go_on c.copy-at.ensures (go_same c.put_election-next.ensures (ap (λ (p : Parameters). election_line p.form) c.parameters-p.ensures)))
    c.put_result.ensures
