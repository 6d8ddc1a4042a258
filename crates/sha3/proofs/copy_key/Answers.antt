-- The bytes of four words are what was read.
use native.Mathlib.Omega.{arith}
use Rattle.laws.specs.Writing as w
use Rattle.sha3.proofs.Lanes.{words_copied}
use Rattle.sha3.proofs.copy_key.Goals as goal

pub returns : goal.returns
returns c =
    w.same c.put_digest.ensures
    (words_copied c.args.key.now (λ i. omega (arith, c.type_inv.key i)) _ c.requires.0 c.word-w0.ensures c.word-w1.ensures c.word-w2.ensures c.word-w3.ensures)
