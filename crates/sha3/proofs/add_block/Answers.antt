-- The invariant: the words of the first k lanes are added.
use mathlib.Core.Path.{refl, sym, ap, ap₂, ◌∙◌}
use mathlib.Core.List.{List}
use Prim.Native.Nat.{ℕ}
use native.Mathlib.Nat.{le_antisymm}
use native.Mathlib.Numerals.{add-one}
use native.Mathlib.Omega.{arith}
use lib.Bits.{bit_xor}
use lib.ListN.{set}
use borrow.Author.Rules.{rules}
use Rattle.keccak.specs.Keccak.{at}
use Rattle.sha3.specs.Word.{add_words}
use Rattle.sha3.proofs.add_block.Goals as goal

pub loop-k-init : goal.loop-k-init
unfolding add_words
loop-k-init c = (search rules, (refl, refl))

pub loop-k-preserved : goal.loop-k-preserved
unfolding add_words
loop-k-preserved c =
    let args = c.args in
    let k = c.loop-k.k in
    let add : List ℕ → ℕ → List ℕ = λ m x. set m k (bit_xor (at m k) x) in (
      omega arith,
      (
        refl,
        ap₂ add c.loop-k.invariant.1.1 c.word-w.ensures ∙ ap (add_words args.l.now args.p.now args.at) (sym (add-one k)),
      ),
    )

pub returns : goal.returns
returns c =
    let args = c.args in
    c.loop-k.invariant.1.1 ∙ ap (add_words args.l.now args.p.now args.at) (le_antisymm c.loop-k.invariant.0 c.loop-k-test.false)
