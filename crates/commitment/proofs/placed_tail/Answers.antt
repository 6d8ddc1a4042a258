-- `commitment::placed_tail` meets its contract: what is written, with the byte behind it, is the end of a message.
use mathlib.Core.Path.{ap, ◌∙◌}
use mathlib.Core.List.{List, ◌++◌}
use Prim.Native.Nat.{ℕ}
use native.Mathlib.Omega.{arith}
use Rattle.laws.specs.Bytes.{bytes, length_bytes}
use Rattle.laws.specs.Writing.{go_on}
use Rattle.sha3.specs.Word.{word_at}
use Rattle.protocol.specs.Terms.{place_bytes}
use Rattle.protocol.proofs.Places.{length_place}
use Rattle.commitment.proofs.Hashed.{tail_written}
use Rattle.commitment.proofs.placed_tail.Goals as goal

pub put4-b-requires : goal.put4-b-requires
put4-b-requires c = omega (arith, length_bytes 4 c.args.x)

pub put_place-c-requires : goal.put_place-c-requires
put_place-c-requires c =
    omega (arith, length_bytes 4 c.args.x, length_bytes 4 c.args.election)

pub put1-requires : goal.put1-requires
put1-requires c =
    omega (arith, length_bytes 4 c.args.x, length_bytes 4 c.args.election, length_place c.args.place)

pub returns : goal.returns
returns c =
    let args = c.args in
    let went = go_on (go_on (go_on c.put4-a.ensures c.put4-b.ensures) c.put_place-c.ensures) c.put1.ensures in
    let is = tail_written ((bytes 4 args.x ++ bytes 4 args.election) ++ place_bytes args.place) went.wrote in
    (c.word-low.ensures ∙ ap (λ (b : List ℕ). word_at b 0) is, c.word-high.ensures ∙ ap (λ (b : List ℕ). word_at b 8) is)
