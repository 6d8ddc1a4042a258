-- `runoff::page::put_winner` meets its contract: the word, the winner and the line's end, one behind the other.
use native.Mathlib.Omega.{arith}
use Rattle.laws.specs.Bytes.{bytes}
use Rattle.laws.specs.Writing.{go_on}
use Rattle.runoff.specs.Page.{none_word, winner_line}
use Rattle.runoff.proofs.Lines.{named_by, named_or_length}
use Rattle.runoff.proofs.page.put_winner.Goals as goal

pub put1-requires : goal.put1-requires
put1-requires c =
    let who = named_by none_word c.args.k c.by_number.ensures c.put_named_or-end.ensures in
    omega (
      arith,
      named_or_length none_word c.args.k (omega arith),
      c.requires,
      c.copy-word.ensures.to,
      c.copy-word.ensures.wrote.long,
      who.to,
      who.wrote.long,
    )

pub returns : goal.returns
unfolding winner_line bytes
returns c =
    go_on (go_on c.copy-word.ensures (named_by none_word c.args.k c.by_number.ensures c.put_named_or-end.ensures)) c.put1.ensures
