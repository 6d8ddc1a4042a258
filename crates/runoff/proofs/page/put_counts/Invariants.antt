-- `runoff::page::put_counts` meets its contract: the cells of the first i candidates are written, of at most 12 bytes each.
use mathlib.Core.List.{List}
use Prim.Native.Nat.{ℕ}
use Rattle.laws.specs.Chunks.{chunks}
use Rattle.laws.specs.Writing.{Went}
use Rattle.protocol.specs.Terms.{item}
use Rattle.runoff.specs.Page.{count_cell}
use Rattle.runoff.proofs.page.put_counts.Given as goal

abbrev pub cell_at : ℕ → List ℕ → List ℕ → ℕ → List ℕ
cell_at round left counts i = count_cell round (item left i) (item counts i)

abbrev pub invariant-loop-i : goal.invariant-loop-i
invariant-loop-i l = Went l.initial.out l.at (chunks (cell_at l.round l.left l.counts) l.i) l.out l.next
