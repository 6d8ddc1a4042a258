-- `board::put_entries` meets its contract. The loop: the first i entries of the list are written.
use mathlib.Core.Path.{◌≡◌}
use native.Mathlib.Omega.{arith}
use Rattle.laws.specs.Writing.{start, go_turn, go_same, part_length}
use Rattle.mixing.proofs.Agreement as agreement
use Rattle.commands.proofs.Operands.{room_even}
use Rattle.board.proofs.Commands.{entry_of, entry_wide, keys_within, entry_is}
use Rattle.board.proofs.put_entries.Goals as goal

pub loop-i-init : goal.loop-i-init
loop-i-init c = start _ _ (omega arith)

pub keys_at-from-requires : goal.keys_at-from-requires
keys_at-from-requires c =
    let pre = rw (← c.s.view_is) at c.requires in
    (agreement.in_list _ pre.0.tests pre.1.0, omega arith)

pub put_entry-next-requires : goal.put_entry-next-requires
put_entry-next-requires c =
    let s = c.args.s.now in
    let l = c.args.l in
    let at = c.loop-i in
    let from = c.keys_at-from in
    let pre = rw (← c.s.view_is) at c.requires in
    let within = keys_within _ pre.0 l at.i pre.1.0 (omega arith) in (
      part_length c.s.inside.keys.now from.result 192 (omega (arith, from.ensures.0, within.0)),
      room_even (entry_of s l) 196 at.i s.parameters.ballots (λ i li. entry_wide s l i) at.invariant c.requires.1.1 (omega (arith, agreement.ballots_same c.s.view_is)),
    )

pub loop-i-preserved : goal.loop-i-preserved
loop-i-preserved c =
    let l = c.args.l in
    let at = c.loop-i in
    let from = c.keys_at-from in
    let six = rw (← c.s.view_is) at c.entry-six.ensures in
    go_turn (entry_of c.args.s.now l) at.i at.invariant
    (go_same c.put_entry-next.ensures (rw (← c.s.view_is) (entry_is _ l at.i from.result c.entry-six.result from.ensures.0 six)))

pub returns : goal.returns
returns c =
    let e : c.loop-i.i ≡ c.args.s.now.parameters.ballots = omega (arith, agreement.ballots_same c.s.view_is) in
    rw e at c.loop-i.invariant
