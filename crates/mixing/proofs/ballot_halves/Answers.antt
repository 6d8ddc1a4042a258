-- `mixing::ballot_halves` meets its contract: they stand behind x and y.
use mathlib.Core.Path.{refl}
use native.Mathlib.Omega.{arith}
use Rattle.protocol.specs.Inputs.{inputs_of}
use Rattle.mixing.proofs.Following.{halves_are}
use Rattle.mixing.proofs.ballot_halves.Goals as goal

pub returns : goal.returns
unfolding inputs_of
returns c =
    let (same, (long, small)) = c.ballot_numbers.ensures in
    halves_are _ 2 ((inputs_of c.args.s.now).first_half c.args.j) c.three.ensures small (omega arith) (λ k lk. rw same refl)
