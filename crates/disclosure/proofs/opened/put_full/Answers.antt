-- `opened::put_full` meets its contract. The loop: the first i full openings are written.
use mathlib.Core.Path.{◌≡◌, sym, ap, ◌∙◌}
use Rattle.std.proofs.Common.{subst}
use Prim.Native.Nat.{ℕ, ◌+◌, ◌≤◌, ◌<◌}
use native.Mathlib.Omega.{arith}
use lib.ListN.{length}
use Rattle.laws.specs.Writing.{part_length, start, go_turn, go_same}
use Rattle.protocol.specs.Record.{full_command}
use Rattle.protocol.specs.Inputs.{Slices, inputs_of}
use Rattle.protocol.specs.Servers.{entry_opening}
use Rattle.commands.proofs.Operands.{room_even}
use Rattle.mixing.specs.Followed.{InList}
use Rattle.mixing.proofs.Agreement.{ballots_same, votes, numbers, places, in_list}
use Rattle.disclosure.proofs.Openings.{keys_same, entry_keys_at, entry_keys_end, full_is, full_long}
use Rattle.disclosure.proofs.opened.put_full.Goals as goal
use Rattle.disclosure.proofs.opened.put_full.Goals.{After-keys_at-from, In-loop-i}

pub loop-i-init : goal.loop-i-init
loop-i-init c = start _ _ (omega arith)

-- the place of this turn, and where its keys end
place : (c : In-loop-i) → c.loop-i.i < c.args.s.now.parameters.ballots
place c = omega (arith, ballots_same c.s.view_is)

listed : (c : In-loop-i) → InList c.args.s.now.parameters c.args.l
listed c = in_list c.args.s.now c.requires.0.tests c.requires.1.0

pub keys_at-from-requires : goal.keys_at-from-requires
keys_at-from-requires c =
    subst (λ (s : Slices). InList s.parameters c.args.l × (c.loop-i.i < s.parameters.ballots)) (sym c.s.view_is)
    (listed (goal.at.keys_at-from-requires c).In-loop-i, place (goal.at.keys_at-from-requires c).In-loop-i)

-- where its keys start, and end
from_is : (c : After-keys_at-from) → c.keys_at-from.result ≡ entry_keys_at c.args.s.now.parameters.ballots c.args.l c.loop-i.i
from_is c = c.keys_at-from.ensures.0 ∙ ap (λ (n : ℕ). entry_keys_at n c.args.l c.loop-i.i) (ballots_same c.s.view_is)

inside : (c : After-keys_at-from) → c.keys_at-from.result + 192 ≤ length c.s.inside.keys.now
inside c =
    omega (
      arith,
      from_is c,
      entry_keys_end c.args.s.now c.requires.0 c.args.l c.loop-i.i c.requires.1.0 (place (goal.at.After-keys_at-from c).In-loop-i),
      ap length (keys_same c.s.view_is),
    )

pub slice_bounds-put_full-end : goal.slice_bounds-put_full-end
slice_bounds-put_full-end c = inside (goal.at.slice_bounds-put_full-end c).After-keys_at-from

pub entry-six-requires : goal.entry-six-requires
entry-six-requires c =
    let s = c.args.s.now in
    let u = c.requires.0.tests in
    let at = (goal.at.entry-six-requires c).In-loop-i in
    (votes s u, (numbers s u, (places s u, (listed at, place at))))

pub put_full-next-requires : goal.put_full-next-requires
put_full-next-requires c =
    let s = c.args.s.now in
    let pre = c.requires in
    let l = c.args.l in
    let g = c.loop-i in (
      part_length c.s.inside.keys.now c.keys_at-from.result 192 (inside (goal.at.put_full-next-requires c).After-keys_at-from),
      room_even (λ i. full_command l i (entry_opening (inputs_of s) l i)) 220 g.i s.parameters.ballots (λ i li. full_long s pre.0 l i pre.1.0 li)
          g.invariant pre.1.1 (place (goal.at.put_full-next-requires c).In-loop-i),
    )

pub loop-i-preserved : goal.loop-i-preserved
loop-i-preserved c =
    let s = c.args.s.now in
    let l = c.args.l in
    let g = c.loop-i in
    let at = (goal.at.loop-i-preserved c).After-keys_at-from in
    go_turn (λ i. full_command l i (entry_opening (inputs_of s) l i)) g.i g.invariant
    (go_same c.put_full-next.ensures
    (full_is s c.requires.0 _ l g.i c.keys_at-from.result (keys_same c.s.view_is) (from_is at) c.entry-six.ensures))

pub returns : goal.returns
returns c =
    let e : c.loop-i.i ≡ c.args.s.now.parameters.ballots = omega (arith, ballots_same c.s.view_is) in
    rw e at c.loop-i.invariant
