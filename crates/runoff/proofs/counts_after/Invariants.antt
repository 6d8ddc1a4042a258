-- `runoff::counts_after` meets its contract: the first i counts are written.
use Prim.Native.Nat.{suc}
use lib.ListN.{replicate}
use Rattle.laws.specs.Tests.{pick}
use Rattle.laws.specs.Tables.{Filled}
use Rattle.protocol.specs.Terms.{item}
use Rattle.runoff.specs.Ranking.{standing}
use Rattle.runoff.proofs.counts_after.Given as goal

abbrev pub invariant-loop-i : goal.invariant-loop-i
invariant-loop-i l = Filled (λ k. pick (standing l.left (suc k)) (item l.round (suc k)) (item l.counts k)) l.i (replicate 9 0) l.after
