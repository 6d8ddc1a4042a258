-- `columns::mix_row` meets its contract: each place is taken from the place that the permutation names.
use native.Mathlib.Omega.{arith}
use Rattle.std.proofs.lemmas.Grind.{common_steps}
use Rattle.laws.specs.Tables.{tabulate_of}
use Rattle.protocol.specs.Columns.{row, row_server}
use Rattle.columns.proofs.mix_row.Goals as goal

pub returns : goal.returns
unfolding row_server row
returns c = tabulate_of _ _ _ (omega (arith, c.fill.ensures.0)) (λ j l. grind (arith, common_steps, c.fill.ensures.1 j (omega arith)))
