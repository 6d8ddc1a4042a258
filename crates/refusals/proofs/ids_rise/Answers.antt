-- `refusals::ids_rise` meets its contract: rising is being sorted by `<`.
use Rattle.std.proofs.Common.{rules, ltb}
use Rattle.std.proofs.lemmas.List.Sorted.{answers_always}
use Rattle.refusals.proofs.Contents.{rising_lem}
use Rattle.refusals.proofs.ids_rise.Goals as goal

pub returns : goal.returns
returns c = rising_lem _ _ (c.is_sorted_by.ensures.cases ltb (answers_always _ _ _ (λ f a r q k. search rules)))
