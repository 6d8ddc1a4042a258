-- The invariant: after i turns of the loop the state is that of 4 i rounds, six lanes complemented.
use mathlib.Core.Path.{◌≡◌, ap, ◌∙◌}
use Prim.Native.Nat.{ℕ, ◌≤◌, ◌<◌, ◌-◌, ◌*◌, ◌+◌, ◌^◌}
use mathlib.Core.List.{List}
use native.Mathlib.Nat.{le_antisymm}
use native.Mathlib.Omega.{arith}
use borrow.Author.Rules.{rules, elem_Fits}
use mir.Syntax.{w64}
use Rattle.keccak.specs.Keccak.{at, round_constants}
use Rattle.keccak.specs.Rows.{flip_of, flipped, code_round}
use Rattle.keccak.proofs.Numbers.{Word, vals, words, words_of, rounds_of, start_is, end_is, four}
use Rattle.keccak.proofs.permute.Given as goal

-- after i turns of the loop the state is that of i * 4 rounds, with six lanes complemented, from any words that the start is made of
abbrev pub invariant-loop-i : goal.invariant-loop-i
invariant-loop-i l = (l.i ≤ 6) × ((f : ℕ → Word) → l.initial.b ≡ vals (flip_of words f) → l.b ≡ vals (flip_of words (rounds_of (l.i * 4) f)))

abbrev pub decreases-loop-i : goal.decreases-loop-i
decreases-loop-i l = 6 - l.i
