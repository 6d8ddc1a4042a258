-- `halves::put_halves` meets its contract: it lends the room for the places.
use Prim.Native.Nat.{ℕ, ◌*◌, ◌≤◌}
use native.Mathlib.Nat.{mul-le-mul_right}
use native.Mathlib.Omega.{arith}
use lib.ListN.{length, replicate, length-replicate}
use Rattle.protocol.specs.Terms.{most_ballots}
use Rattle.disclosure.proofs.halves.put_halves.Goals as goal

-- the room is as long as what it is for may be
fits : (m n : ℕ) → m ≤ 12 → n ≤ most_ballots → m * n ≤ length {A = ℕ} (replicate (12 * most_ballots) 0)
fits m n few_lists few = omega (arith, mul-le-mul_right {m = m} {n = 12} n few_lists, length-replicate {A = ℕ} (12 * most_ballots) 0)

pub place_all-requires : goal.place_all-requires
place_all-requires c =
    let u = c.requires.0.passed.tests in
    (c.requires.0, fits c.args.s.now.parameters.compared c.args.s.now.parameters.ballots u.compared_high u.ballots_high)

pub put_with-requires : goal.put_with-requires
put_with-requires c = (c.requires.0, (c.requires.1.0, (c.place_all.ensures, c.requires.1.1)))
