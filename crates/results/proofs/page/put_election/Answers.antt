-- `results::page::put_election` meets its contract: nothing, or the word, the number and the line's end, one behind the other.
use mathlib.Core.Path.{sym, ap}
use native.Mathlib.Omega.{arith}
use Rattle.laws.specs.Writing.{start, go_on, go_same}
use Rattle.protocol.specs.Results.{election_line}
use Rattle.decimals.proofs.Digits.{decimal_length}
use Rattle.results.proofs.page.put_election.Goals as goal

pub put_decimal-end-requires : goal.put_decimal-end-requires
put_decimal-end-requires c =
    let word = c in
    let known = word in
    omega (arith, decimal_length known.in-Numbered.election, known.requires, word.copy-number.ensures.to, word.copy-number.ensures.wrote.long)

pub copy-requires : goal.copy-requires
copy-requires c =
    let number = c in
    let word = number in
    let known = word in
    omega (
      arith,
      decimal_length known.in-Numbered.election,
      known.requires,
      word.copy-number.ensures.to,
      word.copy-number.ensures.wrote.long,
      number.put_decimal-end.ensures.to,
      number.put_decimal-end.ensures.wrote.long,
    )

pub returns-in-Unnumbered : goal.returns-in-Unnumbered
unfolding election_line
returns-in-Unnumbered c =
    let s = c in
    go_same (start s.args.out.now s.args.at (omega (arith, s.requires))) (sym (ap election_line c.in-Unnumbered.is))

pub returns-in-Numbered : goal.returns-in-Numbered
unfolding election_line
returns-in-Numbered c =
    let end = c in
    let number = end in
    let word = number in
    go_same (go_on word.copy-number.ensures (go_on number.put_decimal-end.ensures end.copy.ensures))
    (sym (ap election_line word.in-Numbered.is))
