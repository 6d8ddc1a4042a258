-- `columns::third_row` meets its contract: each place is an offset.
use native.Mathlib.Omega.{arith}
use Rattle.std.proofs.lemmas.Grind.{common_steps}
use Rattle.laws.specs.Tables.{tabulate_of}
use Rattle.protocol.specs.Columns.{third_offset, third_offsets}
use Rattle.columns.proofs.third_row.Goals as goal

pub returns : goal.returns
unfolding third_offset third_offsets
returns c = tabulate_of _ _ _ (omega (arith, c.fill.ensures.0)) (λ j l. grind (arith, common_steps, c.fill.ensures.1 j (omega arith)))
