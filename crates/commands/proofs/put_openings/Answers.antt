-- `commands::put_openings` meets its contract. The loop: the first k openings are written.
use mathlib.Core.Path.{◌≡◌}
use Prim.Native.Nat.{◌+◌, ◌*◌}
use native.Mathlib.Omega.{arith}
use borrow.Author.Rules.{rules}
use Rattle.laws.specs.Writing.{start, go_turn, go_same}
use Rattle.commands.specs.Openings.{opening_of}
use Rattle.commands.proofs.Operands.{room_even}
use Rattle.commands.proofs.Openings.{opening_is, length_opening_of}
use Rattle.commands.proofs.put_openings.Goals as goal

pub loop-k-init : goal.loop-k-init
loop-k-init c = start _ _ (omega arith)

-- the slot of a turn is one of six, by what is required at that turn

pub overflow_mul-q : goal.overflow_mul-q
overflow_mul-q c = omega (arith, c.requires.1.1 c.loop-k.k (omega arith))

pub overflow_add-q : goal.overflow_add-q
overflow_add-q c = omega (arith, c.requires.1.1 c.loop-k.k (omega arith))

pub overflow_mul-start : goal.overflow_mul-start
overflow_mul-start c = omega (arith, c.requires.1.1 c.loop-k.k (omega arith))

pub overflow_add-end : goal.overflow_add-end
overflow_add-end c = omega (arith, c.requires.1.1 c.loop-k.k (omega arith))

pub put_opening-next-requires : goal.put_opening-next-requires
put_opening-next-requires c =
    let args = c.args in
    let six = c.requires.1.1 in (
      search rules,
      room_even (λ k. opening_of args.six args.keys.now (args.step * k + args.from)) 36 c.loop-k.k args.count
          (λ i l. length_opening_of args.six args.keys.now (args.step * i + args.from) c.requires.0 (six i l)) c.loop-k.invariant
          c.requires.1.0 (omega arith),
    )

pub loop-k-preserved : goal.loop-k-preserved
loop-k-preserved c =
    let args = c.args in
    let k = c.loop-k.k in
    go_turn (λ k. opening_of args.six args.keys.now (args.step * k + args.from)) k c.loop-k.invariant
    (go_same c.put_opening-next.ensures (opening_is args.six args.keys.now (args.step * k + args.from)))

pub returns : goal.returns
returns c =
    let e : c.loop-k.k ≡ c.args.count = omega arith in
    rw e at c.loop-k.invariant
