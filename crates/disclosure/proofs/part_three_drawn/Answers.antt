-- `disclosure::part_three_drawn` meets its contract: what is not refused is ready to be written, and it lends the room for the sides.
use mathlib.Core.Path.{◌≡◌, sym, ◌∙◌}
use Prim.Native.Nat.{ℕ, ◌≤◌}
use lib.ListN.{length, take, replicate, length-replicate}
use lib.Seq.{length-take-le}
use Rattle.protocol.specs.Terms.{most_ballots}
use Rattle.std.proofs.Common.{arith}
use Rattle.std.specs.Prelude.{Err}
use Rattle.protocol.proofs.Answered.{unwritten, wrote}
use Rattle.mixing.proofs.Agreement.{ballots_same}
use Rattle.disclosure.proofs.Unrefused.{sides_drawn}
use Rattle.disclosure.proofs.part_three_drawn.Goals as goal

-- a part of the room is as long as what it is for
part_long : (n : ℕ) → n ≤ most_ballots → length {A = ℕ} (take n (replicate most_ballots 0)) ≡ n
part_long n few = length-take-le n (replicate most_ballots 0) (omega (arith, length-replicate {A = ℕ} most_ballots 0))

pub returns-in_err-part_three_drawn : goal.returns-in_err-part_three_drawn
returns-in_err-part_three_drawn c =
    let e : c.from_residual.result ≡ Err c.in_err-part_three_drawn.field-0.0 = grind arith in
    rw e (unwritten _ _ _ _ c.in_err-part_three_drawn.ensures)

pub slice_bounds-sides-end : goal.slice_bounds-sides-end
slice_bounds-sides-end c =
    let d = sides_drawn _ _ _ _ _ _ c.in_ok-part_three_drawn.ensures in
    omega (arith, ballots_same c.s.view_is, d.passed.tests.ballots_high)

pub slice_bounds-write_drawn-end : goal.slice_bounds-write_drawn-end
slice_bounds-write_drawn-end c =
    let d = sides_drawn _ _ _ _ _ _ c.in_ok-part_three_drawn.ensures in
    sym (part_long c.s.inside.parameters.ballots (omega (arith, ballots_same c.s.view_is, d.passed.tests.ballots_high)))

pub write_drawn-requires : goal.write_drawn-requires
write_drawn-requires c =
    let d = sides_drawn _ _ _ _ _ _ c.in_ok-part_three_drawn.ensures in
    (d, part_long c.s.inside.parameters.ballots (omega (arith, ballots_same c.s.view_is, d.passed.tests.ballots_high)) ∙ ballots_same c.s.view_is)

pub returns : goal.returns
returns c = wrote _ _ _ _ c.in_ok-part_three_drawn.ensures c.write_drawn.ensures
