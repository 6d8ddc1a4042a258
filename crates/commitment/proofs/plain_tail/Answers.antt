-- `commitment::plain_tail` meets its contract: what is written, with the byte behind it, is the end of a message.
use mathlib.Core.Path.{ap, ◌∙◌}
use mathlib.Core.List.{List}
use Prim.Native.Nat.{ℕ}
use native.Mathlib.Omega.{arith}
use Rattle.laws.specs.Bytes.{bytes, length_bytes}
use Rattle.laws.specs.Writing.{go_on}
use Rattle.sha3.specs.Word.{word_at}
use Rattle.commitment.proofs.Hashed.{tail_written}
use Rattle.commitment.proofs.plain_tail.Goals as goal

pub put1-requires : goal.put1-requires
put1-requires c = omega (arith, length_bytes 4 c.args.x, c.put4-a.ensures.to, c.put4-a.ensures.wrote.long)

pub returns : goal.returns
returns c =
    let is = tail_written (bytes 4 c.args.x) (go_on c.put4-a.ensures c.put1.ensures).wrote in
    (c.word-low.ensures ∙ ap (λ (b : List ℕ). word_at b 0) is, c.word-high.ensures ∙ ap (λ (b : List ℕ). word_at b 8) is)
