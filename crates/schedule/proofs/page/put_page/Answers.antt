-- `schedule::page::put_page` meets its contract: the lines of the windows, which are small, or that of the refusal.
use mathlib.Core.Path.{refl}
use borrow.Author.Rules.{rules}
use Rattle.schedule.proofs.Paged.{set_small, set_page, refused_page}
use Rattle.schedule.proofs.page.put_page.Goals as goal

pub put_windows-requires : goal.put_windows-requires
put_windows-requires c = (set_small _ _ c.in-Ok.ensures _ refl, search rules)

pub returns-in-Ok : goal.returns-in-Ok
returns-in-Ok c =
    let page = set_page _ _ c.in-Ok.ensures _ refl c.put_windows.ensures in
    record { output = page.0; answer = page.1 }

pub returns-in-Err : goal.returns-in-Err
returns-in-Err c =
    let page = refused_page _ _ c.in-Err.ensures _ refl c.number.ensures.0 c.put_refused.ensures in
    record { output = page.0; answer = page.1 }
