-- The invariant: after i turns of the loop the state is that of 4 i rounds, six lanes complemented.
use mathlib.Core.Path.{◌≡◌, ap, ◌∙◌}
use Prim.Native.Nat.{ℕ, ◌≤◌, ◌<◌, ◌-◌, ◌*◌, ◌+◌, ◌^◌}
use mathlib.Core.List.{List}
use native.Mathlib.Nat.{le_antisymm}
use native.Mathlib.Omega.{arith}
use borrow.Author.Rules.{rules, elem_Fits}
use mir.Syntax.{w64}
use Rattle.keccak.specs.Keccak.{at, round_constants}
use Rattle.keccak.specs.Rows.{flip_of, flipped, code_round}
use Rattle.keccak.proofs.Numbers.{Word, vals, words, words_of, rounds_of, start_is, end_is, four}
use Rattle.keccak.proofs.permute.Goals as goal

pub loop-i-init : goal.loop-i-init
unfolding rounds_of
loop-i-init c = (search rules, λ f e. e)

pub loop-i-preserved : goal.loop-i-preserved
unfolding round_constants
loop-i-preserved c =
    let a = c in
    let i = a.loop-i.i in
    let k : ℕ → List ℕ → List ℕ = λ n l. code_round (at round_constants (i * 4 + n)) l in (
      omega arith,
      λ f e. c.rounds-t.ensures ∙ ap (λ l. k 3 (k 2 (k 1 (code_round (at round_constants (i * 4)) l)))) (a.loop-i.invariant.1 f e)
          ∙ four f (i * 4) (i * 4 + 1) (i * 4 + 2) (i * 4 + 3) ((i + 1) * 4) (omega arith) (omega arith) (omega arith) (omega arith),
    )

pub returns : goal.returns
returns c =
    let l = c in
    let s = l in
    let a = s.args.a in
    let h = s.well_formed.0 in
    let g : (i : ℕ) → at a i < 2 ^ 64 = λ i. (elem_Fits w64 w64 a h.0 i h.1.1 tt).fits in
    c.flip.ensures
    ∙ ap flipped (l.loop-i.invariant.1 (words_of a g) (s.flip-b.ensures ∙ start_is a g))
    ∙ ap (λ n. flipped (vals (flip_of words (rounds_of (n * 4) (words_of a g))))) (le_antisymm l.loop-i.invariant.0 c.loop-i-test.false)
    ∙ end_is a g
