-- `layout::at_ballot_half` meets its contract: a product is at most that of the limits.
use Prim.Native.Nat.{ℕ, ◌+◌, ◌*◌, ◌≤◌}
use native.Mathlib.Nat.{mul-le-mul}
use native.Mathlib.Omega.{arith}
use Rattle.protocol.specs.Terms.{most_ballots}
use Rattle.protocol.specs.Layout.{at_ballot_half}
use Rattle.layout.proofs.at_ballot_half.Goals as goal

within : {j m : ℕ} → j ≤ most_ballots → m ≤ 12 → j * (m + 1) ≤ most_ballots * 13
within h k = mul-le-mul {m₂ = 13} h (omega arith)

pub overflow_mul-result : goal.overflow_mul-result
overflow_mul-result c = omega (arith, within c.requires.1 c.requires.0.compared)

pub overflow_mul-result-2 : goal.overflow_mul-result-2
overflow_mul-result-2 c = omega (arith, within c.requires.1 c.requires.0.compared)

pub overflow_add-result-3 : goal.overflow_add-result-3
overflow_add-result-3 c = omega (arith, within c.requires.1 c.requires.0.compared)

pub returns : goal.returns
unfolding at_ballot_half
returns c = omega (arith, within c.requires.1 c.requires.0.compared)
