-- `columns::refuse_row` meets its contract: what a pair of rows is refused for, and then rule 19.
use Rattle.std.proofs.Common.{◌≡◌, Err, refl, ◌∙◌, arith}
use Rattle.laws.specs.Tests.{told_true, told_false}
use Rattle.laws.specs.Faults.{rule_go, rule_stop}
use Rattle.protocol.proofs.Answered.{rule_positive}
use Rattle.columns.proofs.Unrefused.{refused_first, passed_first, row_is, places_ready}
use Rattle.columns.proofs.refuse_row.Goals as goal

pub returns-in_err-refuse : goal.returns-in_err-refuse
returns-in_err-refuse c =
    let e : c.from_residual.result ≡ Err c.in_err-refuse.field-0.0 = grind arith in
    rw e (refused_first _ _ _ _ _ _ _ c.in_err-refuse.ensures (rule_positive _) ∙ row_is _ _ _ _ _ _)

pub is_permutation-requires : goal.is_permutation-requires
is_permutation-requires c = places_ready _ _ _ _ _ _ _ _ c.in_ok-refuse.ensures

pub returns-then-not-is_permutation : goal.returns-then-not-is_permutation
returns-then-not-is_permutation c =
    rule_stop 19 _ _ (told_false c.is_permutation.ensures c.if-not-is_permutation.true) ∙ passed_first _ _ _ _ _ _ c.in_ok-refuse.ensures ∙ row_is _ _ _ _ _ _

pub returns : goal.returns
returns c = rule_go 19 _ _ (told_true c.is_permutation.ensures c.if-not-is_permutation.false) refl ∙ passed_first _ _ _ _ _ _ c.in_ok-refuse.ensures ∙ row_is _ _ _ _ _ _
