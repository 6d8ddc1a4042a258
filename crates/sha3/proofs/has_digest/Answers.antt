-- A word that is read is a lane exactly if its bytes are, so four of them decide.
use Prim.Native.Nat.{ℕ}
use native.Mathlib.Omega.{arith}
use borrow.Author.Rules.{rules}
use mir.Syntax.{w64}
use mir.Val.{Fits}
use Rattle.keccak.specs.Keccak.{at}
use Rattle.sha3.proofs.Lanes.{digest_same}
use Rattle.sha3.proofs.has_digest.Goals as goal

pub returns : goal.returns
returns c =
    let a = c.args in
    let small : (i : ℕ) → Fits w64 (at a.row i) = λ i. search rules in
    digest_same a.s.now (λ i. omega (arith, c.type_inv.s i)) a.row a.at c.word.result c.word-2.result c.word-3.result c.word-4.result
    (λ i. (small i).fits) (omega arith)
    c.word.ensures c.word-2.ensures c.word-3.ensures c.word-4.ensures
