-- `schedule::dates::exists` meets its contract.
use mathlib.Core.Path.{sym, ◌∙◌}
use Rattle.laws.specs.Tests.{never}
use Rattle.schedule.proofs.Ranges.{in_closed}
use Rattle.schedule.proofs.Dating.{exists_if, exists_not}
use Rattle.schedule.proofs.dates.exists.Goals.{then-contains, else-contains}
use Rattle.schedule.proofs.dates.exists.Goals as goal

pub returns-then-contains-2 : goal.returns-then-contains-2
returns-then-contains-2 c =
    let t = c.args.date in
    let year = in_closed t.year c.contains.ensures.value c.new.ensures.start c.new.ensures.end c.new.ensures.exhausted in
    let last = c.new-then-contains-2.ensures in
    let day = in_closed t.day c.contains-then-contains-2.ensures.value last.start (last.end ∙ c.days_of_month.ensures.0) last.exhausted in
    elim c.if-contains.branch [
      | then-contains w ↦
          let new = w.new-then-contains.ensures in
          let month = in_closed t.month w.contains-then-contains.ensures.value new.start new.end new.exhausted in
          exists_if t (sym year ∙ w.if-contains.true) (sym month ∙ sym w.value-is ∙ c.if-contains-2.true) day
      | else-contains w ↦ absurd (never c.if-contains-2.true (w.value-is ∙ w.if-contains.false))
    ]

pub returns-else-contains-2 : goal.returns-else-contains-2
returns-else-contains-2 c =
    let t = c.args.date in
    let year = in_closed t.year c.contains.ensures.value c.new.ensures.start c.new.ensures.end c.new.ensures.exhausted in
    elim c.if-contains.branch [
      | then-contains w ↦
          let new = w.new-then-contains.ensures in
          let month = in_closed t.month w.contains-then-contains.ensures.value new.start new.end new.exhausted in
          c.if-contains-2.false ∙ exists_not t (λ y. sym month ∙ sym w.value-is ∙ c.if-contains-2.false)
      | else-contains w ↦
          c.if-contains-2.false ∙ exists_not t (λ y. absurd (never y (sym year ∙ w.if-contains.false)))
    ]
