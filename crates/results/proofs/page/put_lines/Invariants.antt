-- `results::page::put_lines` meets its contract: the lines of the first i pairs are written, of at most 22 bytes each.
use mathlib.Core.List.{List}
use Prim.Native.Nat.{ℕ, ◌+◌, ◌*◌, ◌≤◌}
use Rattle.laws.specs.Chunks.{chunks}
use Rattle.laws.specs.Writing.{Went}
use Rattle.protocol.specs.Terms.{item}
use Rattle.protocol.specs.Results.{tally_line}
use Rattle.results.proofs.page.put_lines.Given as goal

abbrev pub line_at : List ℕ → List ℕ → ℕ → List ℕ
line_at values counts i = tally_line (item values i) (item counts i)

abbrev pub invariant-loop-i : goal.invariant-loop-i
invariant-loop-i l = record { short : l.next ≤ l.at + 22 * l.i; went : Went l.initial.out l.at (chunks (line_at l.values l.counts) l.i) l.out l.next }
