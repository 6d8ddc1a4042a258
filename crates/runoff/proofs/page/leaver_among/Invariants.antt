-- `runoff::page::leaver_among` meets its contract: who has left in the round among the first n candidates.
use mathlib.Core.Path.{◌≡◌}
use Rattle.runoff.specs.Rounds.{candidate}
use Rattle.runoff.specs.Page.{leaver_among}
use Rattle.runoff.proofs.page.leaver_among.Given as goal

abbrev pub invariant-loop-n : goal.invariant-loop-n
invariant-loop-n l = l.leaver ≡ candidate (leaver_among l.left l.round l.n)
