-- `verifier::each` meets its contract: no search so far found anything.
use Rattle.std.proofs.Common.{ℕ, ◌≡◌, ◌<◌}
use Rattle.laws.specs.Faults.{Found, Nothing, first}
use Rattle.protocol.specs.Answers.{found_in}
use Rattle.verifier.proofs.each.Given as goal

abbrev pub invariant-loop-i : goal.invariant-loop-i
invariant-loop-i g l = (f : ℕ → Found) → ((i : ℕ) (r : _) → i < l.n → goal.F-post g l.search i r → found_in r ≡ f i) → first f l.i ≡ Nothing
