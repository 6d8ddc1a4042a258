-- `results::page::put_tally` meets its contract: the lines of what the tally wrote.
use Rattle.laws.specs.Writing.{go_same}
use Rattle.results.proofs.Lines.{lines_ready, lines_are}
use Rattle.results.proofs.page.put_tally.Goals as goal

pub fill-pairs-requires : goal.fill-pairs-requires
fill-pairs-requires c = c.requires.tally

pub put_lines-requires : goal.put_lines-requires
put_lines-requires c =
    let at = c in
    let filled = at.fill-pairs.ensures in
    lines_ready _ _ _ filled.values filled.counts filled.answer at.requires

pub returns : goal.returns
returns c =
    let wrote = c in
    let filled = wrote.fill-pairs.ensures in
    go_same wrote.put_lines.ensures (lines_are _ _ _ filled.values filled.counts filled.answer)
