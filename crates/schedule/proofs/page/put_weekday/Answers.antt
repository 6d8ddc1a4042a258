-- `schedule::page::put_weekday` meets its contract: the names are those of the page.
use Rattle.schedule.specs.Working.{weekday}
use Rattle.schedule.specs.Page.{weekday_text}
use Rattle.schedule.proofs.page.put_weekday.Goals as goal

pub returns : goal.returns
unfolding weekday weekday_text
returns c = c.put_name.ensures
