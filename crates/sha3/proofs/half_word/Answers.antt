-- No shift of a byte loses bits, so the number is the definition's.
use native.Mathlib.Omega.{arith}
use Rattle.sha3.proofs.Laws.{half_word_law}
use Rattle.sha3.proofs.half_word.Goals as goal

pub returns : goal.returns
returns c = half_word_law c.args.p.now c.args.at (λ k. omega (arith, c.type_inv.p k))
