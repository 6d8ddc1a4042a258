-- `results::page::put_lines` meets its contract: the lines of the first i pairs are written, of at most 22 bytes each.
use mathlib.Core.Path.{◌≡◌, ap}
use native.Mathlib.Omega.{arith}
use Rattle.laws.specs.Chunks.{chunks}
use Rattle.laws.specs.Writing.{start, go_turn, go_same}
use Rattle.protocol.specs.Terms.{item}
use Rattle.results.proofs.Lines.{line_length}
use Rattle.results.proofs.page.put_lines.Invariants.{line_at}
use Rattle.results.proofs.page.put_lines.Goals as goal

pub loop-i-init : goal.loop-i-init
loop-i-init c = record { short = omega arith; went = start _ _ (omega (arith, c.requires.room)) }

pub overflow_cast-counts : goal.overflow_cast-counts
overflow_cast-counts c = omega (arith, c.requires.counts_small c.loop-i.i (omega arith))

pub put_line-next-requires : goal.put_line-next-requires
put_line-next-requires c = omega (arith, c.requires.room, c.loop-i.invariant.short, c.loop-i.invariant.went.wrote.long)

pub loop-i-preserved : goal.loop-i-preserved
loop-i-preserved c =
    let args = c.args in
    let before = c.loop-i.invariant in
    let went = c.put_line-next.ensures in
    let long = line_length (item args.values.now c.loop-i.i) (item args.counts.now c.loop-i.i) in
    record {
      short = omega (arith, went.to, long, before.short);
      went = go_turn (line_at args.values.now args.counts.now) c.loop-i.i before.went went;
    }

pub returns : goal.returns
returns c =
    let e : c.loop-i.i ≡ c.args.pairs = omega arith in
    go_same c.loop-i.invariant.went (ap (chunks (line_at c.args.values.now c.args.counts.now)) e)
