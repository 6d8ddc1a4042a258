-- `schedule::page::put_start` meets its contract.
use Rattle.schedule.specs.Page.{start_text}
use Rattle.schedule.proofs.page.put_start.Goals as goal

pub returns : goal.returns
unfolding start_text
returns c = c.put_moment.ensures
