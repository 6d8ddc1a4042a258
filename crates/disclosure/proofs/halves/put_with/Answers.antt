-- `halves::put_with` meets its contract. The loop: the halves of the first j ballots are written.
use mathlib.Core.Path.{◌≡◌}
use mathlib.Core.List.{[]}
use Prim.Native.Nat.{ℕ, ◌+◌, ◌*◌, ◌<◌}
use native.Mathlib.Omega.{arith}
use Rattle.laws.specs.Writing.{start, go_turn, go_same}
use Rattle.protocol.specs.Terms.{item}
use Rattle.protocol.specs.Inputs.{inputs_of}
use Rattle.commands.proofs.Operands.{room_even}
use Rattle.disclosure.proofs.LinkedHalves.{one_side, halves_long}
use Rattle.disclosure.proofs.halves.put_with.Invariants.{halves_of}
use Rattle.disclosure.proofs.halves.put_with.Goals as goal
use Rattle.disclosure.proofs.halves.put_with.Goals.{Start}

pub loop-j-init : goal.loop-j-init
loop-j-init c = start _ _ (omega arith)

pub put_halves_of-next-requires : goal.put_halves_of-next-requires
put_halves_of-next-requires c =
    let s = c.args.s.now in
    let a = c.args in
    let n : ℕ = a.s.now.parameters.ballots in
    let g = c.loop-j in
    let lj : g.j < n = omega (arith, c.requires.1.0.long) in
    let binary = c.requires.1.0.binary in (
      c.requires.0,
      (
        c.requires.1.1.0,
        (
          lj,
          (
            binary g.j lj,
            room_even (halves_of s a.mask a.sides.now) ((a.s.now.parameters.compared + 1) * 112) g.j n
                (λ j lj. halves_long s a.mask c.requires.0 [] (item a.sides.now) j lj (binary j lj)) g.invariant c.requires.1.1.1 lj,
          ),
        ),
      ),
    )

pub loop-j-preserved : goal.loop-j-preserved
loop-j-preserved c =
    let a = c.args in
    let s = c.args.s.now in
    let g = c.loop-j in
    go_turn (halves_of s a.mask a.sides.now) g.j g.invariant
    (go_same c.put_halves_of-next.ensures (one_side (inputs_of s) a.s.now.parameters a.mask (item a.sides.now) g.j))

pub returns : goal.returns
returns c =
    let e : c.loop-j.j ≡ c.args.s.now.parameters.ballots = omega (arith, c.requires.1.0.long) in
    rw e at c.loop-j.invariant
