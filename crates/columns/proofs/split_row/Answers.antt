-- `columns::split_row` meets its contract: each place is a second half.
use native.Mathlib.Omega.{arith}
use Rattle.std.proofs.lemmas.Grind.{common_steps}
use Rattle.laws.specs.Tables.{tabulate_of}
use Rattle.protocol.specs.Columns.{second_halves}
use Rattle.columns.proofs.split_row.Goals as goal

pub returns : goal.returns
unfolding second_halves
returns c = tabulate_of _ _ _ (omega (arith, c.fill.ensures.0)) (λ j l. grind (arith, common_steps, c.fill.ensures.1 j (omega arith)))
