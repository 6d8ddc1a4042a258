-- The invariant: after i turns of the loop the state is that of 3 + 4 i rounds, six lanes complemented. The last round's row 0 has two
-- of the six.
use mathlib.Core.Path.{◌≡◌, refl, ap, ◌∙◌}
use Prim.Native.Nat.{ℕ, ◌≤◌, ◌<◌, ◌-◌, ◌*◌, ◌+◌, ◌^◌}
use mathlib.Core.List.{List}
use native.Mathlib.Nat.{le_antisymm}
use native.Mathlib.Omega.{arith}
use lib.Dec.{lit<}
use borrow.Author.Rules.{rules, elem_Fits}
use mir.Syntax.{w64}
use Rattle.keccak.specs.Keccak.{at, round_constants}
use Rattle.keccak.specs.Rows.{flip_of, code_round, row_at}
use Rattle.keccak.proofs.Numbers.{Word, vals, words, words_of, rounds_of, start_is, end_is, first_flipped, one, three, four}
use Rattle.keccak.proofs.first_row.Given as goal

abbrev pub invariant-loop-i : goal.invariant-loop-i
invariant-loop-i l = (l.i ≤ 5) × ((f : ℕ → Word) → l.initial.b ≡ vals (flip_of words (rounds_of 3 f)) → l.b ≡ vals (flip_of words (rounds_of (l.i * 4 + 3) f)))

abbrev pub decreases-loop-i : goal.decreases-loop-i
decreases-loop-i l = 5 - l.i
