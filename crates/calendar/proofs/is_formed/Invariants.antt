-- All characters so far are in their places.
use mathlib.Core.Path.{◌≡◌}
use mathlib.Core.Bool.{true}
use lib.ListN.{length}
use Rattle.laws.specs.Tests.{every}
use Rattle.protocol.specs.Terms.{item}
use Rattle.calendar.specs.Arguments.{placed}
use Rattle.calendar.proofs.is_formed.Given as goal

abbrev pub invariant-loop-i : goal.invariant-loop-i
invariant-loop-i l = (length l.argument ≡ 10) × (every (λ i. placed i (item l.argument i)) l.i ≡ true)
