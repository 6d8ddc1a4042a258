-- `election::fit` meets its contract, by the types.
use native.Mathlib.Omega.{arith}
use Rattle.election.proofs.Numbered.{number_fits}
use Rattle.election.proofs.fit.Goals as goal

pub returns : goal.returns
returns c = (number_fits _ _ c.well_formed.0, λ i l. omega (arith, c.type_inv.ids i))
