-- Parameters small enough for places to be worked out.
use Rattle.std.specs.Prelude.{◌≤◌}
use Rattle.protocol.specs.declared.Parameters.{Parameters}
use Rattle.protocol.specs.Terms.{most_ballots}

pub record Few (p : Parameters) : Type 0 where
  pub ballots : p.ballots ≤ most_ballots
  pub compared : p.compared ≤ 12
