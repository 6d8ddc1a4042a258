-- `election::write_third` meets its contract: the sides are given, or drawn into a room of their own.
use mathlib.Core.Path.{◌≡◌, sym, ◌∙◌}
use Prim.Native.Nat.{ℕ, ◌≤◌}
use native.Mathlib.Omega.{arith}
use lib.ListN.{length, take, replicate, length-replicate}
use lib.Seq.{length-take-le}
use Rattle.protocol.specs.Terms.{most_ballots}
use Rattle.mixing.proofs.Agreement.{ballots_same}
use Rattle.election.proofs.Writing.{sides_given, sides_drawn, long_given, binary_given}
use Rattle.election.proofs.write_third.Goals as goal

-- a part of the room is as long as what it is for
part_long : (n : ℕ) → n ≤ most_ballots → length {A = ℕ} (take n (replicate most_ballots 0)) ≡ n
part_long n few = length-take-le n (replicate most_ballots 0) (omega (arith, length-replicate {A = ℕ} most_ballots 0))

pub write-requires : goal.write-requires
write-requires c =
    let ready = c.requires in
    record {
      passed = ready.passed;
      dice_long = ready.dice_long;
      shape = ready.shape;
      sides_long = long_given c.args.s.now c.in-Some.is ready.sides_long;
      binary = binary_given c.args.s.now c.in-Some.is ready.binary;
      out_long = ready.out_long;
    }

pub returns-in-Some : goal.returns-in-Some
returns-in-Some c = sides_given _ _ _ _ _ c.in-Some.is c.write.ensures

pub slice_bounds-write_drawn-end : goal.slice_bounds-write_drawn-end
slice_bounds-write_drawn-end c =
    sym (part_long c.s.inside.parameters.ballots (omega (arith, ballots_same c.s.view_is, c.requires.passed.tests.ballots_high)))

pub slice_bounds-drawn-end : goal.slice_bounds-drawn-end
slice_bounds-drawn-end c = omega (arith, ballots_same c.s.view_is, c.requires.passed.tests.ballots_high)

pub write_drawn-requires : goal.write_drawn-requires
write_drawn-requires c =
    let ready = c.requires in (
      record { passed = ready.passed; dice_long = ready.dice_long; shape = ready.shape; out_long = ready.out_long },
      part_long c.s.inside.parameters.ballots (omega (arith, ballots_same c.s.view_is, ready.passed.tests.ballots_high)) ∙ ballots_same c.s.view_is,
    )

pub returns : goal.returns
returns c = sides_drawn _ _ _ _ _ c.in_default.is c.write_drawn.ensures
