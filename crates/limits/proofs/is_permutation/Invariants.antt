-- `limits::is_permutation` meets its contract: the numbers passed are places below n, each once, and those are marked.
use mathlib.Core.Path.{◌≡◌}
use mathlib.Core.Bool.{true}
use lib.ListN.{length}
use Rattle.laws.specs.Tests.{every}
use Rattle.protocol.specs.Terms.{item, most_ballots}
use Rattle.laws.specs.Marks.{fresh, Marks}
use Rattle.limits.proofs.is_permutation.Given as goal

abbrev pub invariant-loop-number : goal.invariant-loop-number
invariant-loop-number l =
    (length l.marks ≡ most_ballots) × (Marks most_ballots (item l.permutation) l.number-index l.marks × (every (fresh l.n (item l.permutation)) l.number-index ≡ true))
