-- `opened::put_if_opened` meets its contract: by the list's bit of the mask.
use mathlib.Core.List.{[]}
use Prim.Native.Nat.{◌*◌}
use native.Mathlib.Omega.{arith}
use Rattle.laws.specs.Masks.{bit}
use Rattle.laws.specs.Writing.{start}
use Rattle.disclosure.proofs.FullOpenings.{opened_one, when_clear, when_set}
use Rattle.disclosure.proofs.opened.put_if_opened.Goals as goal

pub returns-then-mask-l-ne0 : goal.returns-then-mask-l-ne0
returns-then-mask-l-ne0 c =
    let a = c.args in
    when_set (bit a.mask a.l) _ [] c.if-mask-l-ne0.true (start a.out.now a.at (omega arith))

pub put_full-requires : goal.put_full-requires
put_full-requires c =
    (c.requires.0, (c.requires.1.0, opened_one (bit c.args.mask c.args.l) c.args.at (c.args.s.now.parameters.ballots * 220) c.if-mask-l-ne0.false c.requires.1.1))

pub returns : goal.returns
returns c =
    let a = c.args in
    when_clear (bit a.mask a.l) _ [] c.if-mask-l-ne0.false c.put_full.ensures
