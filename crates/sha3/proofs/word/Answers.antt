-- No shift of a byte loses bits, so the word is the definition's.
use native.Mathlib.Omega.{arith}
use Rattle.sha3.proofs.Laws.{word_law}
use Rattle.sha3.proofs.word.Goals as goal

pub returns : goal.returns
returns c = word_law c.args.p.now c.args.at (λ k. omega (arith, c.type_inv.p k))
