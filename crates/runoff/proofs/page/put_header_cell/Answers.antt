-- `runoff::page::put_header_cell` meets its contract: a tab and the candidate.
use native.Mathlib.Omega.{arith}
use Rattle.laws.specs.Bytes.{bytes, length_bytes}
use Rattle.laws.specs.Writing.{go_on}
use Rattle.runoff.specs.Page.{header_cell}
use Rattle.runoff.proofs.page.put_header_cell.Goals as goal

pub put_named-requires : goal.put_named-requires
put_named-requires c =
    omega (arith, length_bytes 1 9, c.requires, c.put1-next.ensures.to, c.put1-next.ensures.wrote.long)

pub returns : goal.returns
unfolding header_cell bytes
returns c =
    go_on c.put1-next.ensures c.put_named.ensures
