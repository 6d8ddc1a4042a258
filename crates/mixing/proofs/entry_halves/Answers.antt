-- `mixing::entry_halves` meets its contract: they stand behind the offsets.
use mathlib.Core.Path.{ap}
use Prim.Native.Nat.{◌+◌, ◌*◌}
use native.Mathlib.Omega.{arith}
use Rattle.protocol.specs.Terms.{item}
use Rattle.protocol.specs.Inputs.{inputs_of, list_numbers}
use Rattle.mixing.proofs.Agreement.{ballots_same}
use Rattle.mixing.proofs.Following.{halves_are}
use Rattle.mixing.proofs.entry_halves.Goals as goal

pub returns : goal.returns
unfolding inputs_of
returns c =
    let a = c.args in
    let (same, (long, small)) = c.list_numbers.ensures in
    halves_are _ (6 * c.s.inside.parameters.ballots + 3 * a.i) ((inputs_of a.s.now).entry_first_half a.l a.i) c.three.ensures small (omega (arith, ballots_same c.s.view_is))
    (λ k lk. rw (same, ← c.s.view_is) (ap (item (list_numbers _ a.l)) (omega arith)))
