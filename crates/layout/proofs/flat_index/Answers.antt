-- `layout::flat_index` meets its contract: a product is at most that of the limits.
use Prim.Native.Nat.{ℕ, ◌*◌, ◌≤◌}
use native.Mathlib.Nat.{mul-le-mul}
use native.Mathlib.Omega.{arith}
use Rattle.protocol.specs.Terms.{most_ballots}
use Rattle.layout.proofs.flat_index.Goals as goal

within : {n r : ℕ} → r ≤ 24 → n ≤ most_ballots → r * n ≤ 24 * most_ballots
within h k = mul-le-mul h k

pub overflow_mul-result : goal.overflow_mul-result
overflow_mul-result c = omega (arith, within c.requires.1.0 c.requires.0.ballots)

pub overflow_add-result : goal.overflow_add-result
overflow_add-result c = omega (arith, within c.requires.1.0 c.requires.0.ballots)

pub returns : goal.returns
returns c = omega (arith, within c.requires.1.0 c.requires.0.ballots)
