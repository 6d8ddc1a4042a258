-- `results::page::put_line` meets its contract: the vote, a space, the count and the line's end, one behind the other.
use native.Mathlib.Omega.{arith}
use Rattle.laws.specs.Bytes.{bytes, length_bytes}
use Rattle.laws.specs.Writing.{go_on}
use Rattle.protocol.specs.Results.{tally_line}
use Rattle.decimals.proofs.Digits.{decimal_length}
use Rattle.results.proofs.page.put_line.Goals as goal

pub put_decimal-space-requires : goal.put_decimal-space-requires
put_decimal-space-requires c = omega (arith, decimal_length c.args.vote)

pub put1-second-requires : goal.put1-second-requires
put1-second-requires c =
    let a = c in
    let o = a in
    omega (arith, decimal_length o.args.vote, o.requires, a.put_decimal-space.ensures.to, a.put_decimal-space.ensures.wrote.long)

pub put_decimal-end-requires : goal.put_decimal-end-requires
put_decimal-end-requires c =
    let b = c in
    let a = b in
    let o = a in
    omega (
      arith,
      decimal_length o.args.vote,
      decimal_length o.args.count,
      length_bytes 1 32,
      o.requires,
      a.put_decimal-space.ensures.to,
      a.put_decimal-space.ensures.wrote.long,
      b.put1-second.ensures.to,
      b.put1-second.ensures.wrote.long,
    )

pub put1-requires : goal.put1-requires
put1-requires c =
    let d = c in
    let b = d in
    let a = b in
    let o = a in
    omega (
      arith,
      decimal_length o.args.vote,
      decimal_length o.args.count,
      length_bytes 1 32,
      o.requires,
      a.put_decimal-space.ensures.to,
      a.put_decimal-space.ensures.wrote.long,
      b.put1-second.ensures.to,
      b.put1-second.ensures.wrote.long,
      d.put_decimal-end.ensures.to,
      d.put_decimal-end.ensures.wrote.long,
    )

pub returns : goal.returns
unfolding tally_line bytes
returns c =
    let e = c in
    let d = e in
    let b = d in
    let a = b in
    go_on (go_on a.put_decimal-space.ensures b.put1-second.ensures) (go_on d.put_decimal-end.ensures e.put1.ensures)
