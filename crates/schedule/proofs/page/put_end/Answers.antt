-- `schedule::page::put_end` meets its contract.
use Rattle.schedule.specs.Page.{end_text}
use Rattle.schedule.proofs.page.put_end.Goals as goal

pub returns : goal.returns
unfolding end_text
returns c = c.put_moment.ensures
