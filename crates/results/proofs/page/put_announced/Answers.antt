-- `results::page::put_announced` meets its contract: the lines of the votes that were read.
use mathlib.Core.Path.{ap}
use Rattle.laws.specs.Writing.{go_same}
use Rattle.protocol.specs.Results.{tally_lines}
use Rattle.results.proofs.Lines.{lines_room}
use Rattle.results.proofs.page.put_announced.Goals as goal

pub put_tally-requires : goal.put_tally-requires
put_tally-requires c =
    let read = c in
    lines_room read.requires read.read_votes.ensures

pub returns : goal.returns
returns c =
    let wrote = c in
    let read = wrote in
    go_same wrote.put_tally.ensures (ap tally_lines read.read_votes.ensures)
