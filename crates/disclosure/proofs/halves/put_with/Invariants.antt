-- `halves::put_with` meets its contract. The loop: the halves of the first j ballots are written.
use mathlib.Core.List.{List, []}
use Prim.Native.Nat.{ℕ}
use Rattle.laws.specs.Chunks.{chunks}
use Rattle.laws.specs.Writing.{Went}
use Rattle.protocol.specs.Terms.{item}
use Rattle.protocol.specs.Record.{halves}
use Rattle.protocol.specs.Inputs.{Slices, inputs_of}
use Rattle.protocol.specs.Servers.{link_position, posted_disclosure}
use Rattle.disclosure.proofs.halves.put_with.Given as goal

-- those of ballot j
abbrev pub halves_of : Slices → ℕ → List ℕ → ℕ → List ℕ
halves_of s mask sides = halves s.parameters mask (link_position (inputs_of s)) (posted_disclosure (inputs_of s) [] (item sides))

abbrev pub invariant-loop-j : goal.invariant-loop-j
invariant-loop-j l = Went l.initial.out l.at (chunks (halves_of l.s l.mask l.sides) l.j) l.out l.next
