-- The invariant: after i turns of the loop the state is that of 3 + 4 i rounds, six lanes complemented. The last round's row 0 has two
-- of the six.
use mathlib.Core.Path.{◌≡◌, refl, ap, ◌∙◌}
use Prim.Native.Nat.{ℕ, ◌≤◌, ◌<◌, ◌-◌, ◌*◌, ◌+◌, ◌^◌}
use mathlib.Core.List.{List}
use native.Mathlib.Nat.{le_antisymm}
use native.Mathlib.Omega.{arith}
use lib.Dec.{lit<}
use borrow.Author.Rules.{rules, elem_Fits}
use mir.Syntax.{w64}
use Rattle.keccak.specs.Keccak.{at, round_constants}
use Rattle.keccak.specs.Rows.{flip_of, code_round, row_at}
use Rattle.keccak.proofs.Numbers.{Word, vals, words, words_of, rounds_of, start_is, end_is, first_flipped, one, three, four}
use Rattle.keccak.proofs.first_row.Goals as goal

pub loop-i-init : goal.loop-i-init
loop-i-init c = (search rules, λ f e. e)

pub loop-i-preserved : goal.loop-i-preserved
unfolding round_constants
loop-i-preserved c =
    let a = c in
    let i = a.loop-i.i in
    let k : ℕ → List ℕ → List ℕ = λ n l. code_round (at round_constants (i * 4 + n)) l in (
      omega arith,
      λ f e. c.inner_rounds-t.ensures ∙ ap (λ l. k 6 (k 5 (k 4 (k 3 l)))) (a.loop-i.invariant.1 f e)
          ∙ four f (i * 4 + 3) (i * 4 + 4) (i * 4 + 5) (i * 4 + 6) ((i + 1) * 4 + 3) (omega arith) (omega arith) (omega arith) (omega arith),
    )

pub returns : goal.returns
unfolding round_constants rounds_of
returns c =
    let l = c in
    let t = l in
    let s = t in
    let a = s.args.a in
    let h = s.well_formed.0 in
    let g : (i : ℕ) → at a i < 2 ^ 64 = λ i. (elem_Fits w64 w64 a h.0 i h.1.1 tt).fits in
    let f = words_of a g in
    let k : ℕ → List ℕ → List ℕ = λ j l. code_round (at round_constants j) l in
    let begin = t.first_rounds-b.ensures ∙ ap (λ l. k 2 (k 1 (k 0 l))) (s.flip.ensures ∙ start_is a g) ∙ three f 0 1 2 3 refl refl refl in
    let all = l.loop-i.invariant.1 f begin ∙ ap (λ n. vals (flip_of words (rounds_of (n * 4 + 3) f))) (le_antisymm l.loop-i.invariant.0 c.loop-i-test.false) in
    first_flipped (vals (flip_of words (rounds_of 24 f))) (c.last_row-e.ensures ∙ ap (λ l. row_at l 0) (ap (k 23) all ∙ one f 23 24 refl))
    ∙ ap (λ l. row_at l 0) (end_is a g)
