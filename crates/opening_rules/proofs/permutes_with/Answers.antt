-- `opening_rules::permutes_with` meets its contract.
use mathlib.Core.Path.{ap, ◌∙◌}
use native.Mathlib.Omega.{arith}
use lib.ListN.{length}
use Rattle.laws.specs.Tables.{tabulate}
use Rattle.opening_rules.proofs.Permuted.{filled_sorted, filled_permutes}
use Rattle.opening_rules.proofs.permutes_with.Goals as goal

pub fill_numbers-requires : goal.fill_numbers-requires
fill_numbers-requires c i h = c.requires.votes_whole i (omega (arith, h, c.requires.as_many))

pub is_permutation-requires : goal.is_permutation-requires
is_permutation-requires c =
    (omega arith, omega arith, filled_sorted _ _ c.fill_numbers.ensures (λ i l. c.requires.rise i (omega arith)))

pub returns : goal.returns
returns c =
    c.is_permutation.ensures
    ∙ filled_permutes _ _ (length c.args.values.now) c.fill_values.ensures (c.fill_numbers.ensures ∙ ap (tabulate _) c.requires.as_many)
