-- `calendar::put_page` meets its contract: the first number is the election day, the others are the holidays.
use mathlib.Core.Path.{ap, ◌∙◌}
use Rattle.schedule.specs.Dates.{date_in}
use Rattle.calendar.proofs.Formed.{page_as, first_is, rest_is, none_first, none_rest}
use Rattle.calendar.proofs.put_page.Goals as goal

pub returns-in-Some : goal.returns-in-Some
returns-in-Some c =
    let numbers = c.args.numbers.now in
    let split = c.in-Some.ensures.cases.0 in
    let wrote = c.put_page.ensures in
    let first = c.date_in.ensures ∙ ap date_in (first_is numbers split) in
    let written = page_as numbers c.args.out.now first (rest_is numbers split) (wrote.output, wrote.answer) in
    record { output = written.0; answer = written.1 }

pub returns-in-None : goal.returns-in-None
returns-in-None c =
    let numbers = c.args.numbers.now in
    let none = c.in-None.ensures.cases in
    let first = c.date_in-in-None.ensures ∙ ap date_in (none_first numbers none) in
    let wrote = c.put_page-in-None.ensures in
    let written = page_as numbers c.args.out.now first (none_rest numbers none) (wrote.output, wrote.answer) in
    record { output = written.0; answer = written.1 }
