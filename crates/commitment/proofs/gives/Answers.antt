-- `commitment::gives` meets its contract: the hash of the opening is compared with what is posted.
use mathlib.Core.Path.{ap, ap₂, ◌∙◌}
use mathlib.Core.List.{List, ◌++◌}
use Prim.Native.Nat.{ℕ, ◌+◌}
use native.Mathlib.Omega.{arith}
use Rattle.laws.specs.Bytes.{bytes, bytes_number}
use Rattle.laws.specs.Chunks.{piece, piece_join}
use Rattle.laws.specs.Tests.{same}
use Rattle.laws.specs.Writing.{part_is, part_length}
use Rattle.protocol.specs.Terms.{opening, commitment}
use Rattle.protocol.specs.Rules.{gives}
use Rattle.commitment.proofs.Hashed.{committed}
use Rattle.commitment.proofs.gives.Goals as goal

pub returns : goal.returns
unfolding gives opening
returns c =
    let bs = c.args.bytes.now in
    let at = c.args.opening_at in
    let four = ap (bytes 4) c.read4-x.ensures.0 ∙ bytes_number bs (at + 32) 4 (λ i l. omega (arith, c.type_inv.bytes i)) (omega arith) in
    let opened = ap₂ (λ (l m : List ℕ). l ++ m) (part_is bs at 32) four ∙ piece_join bs at 32 4 in
    let is = committed c.args.p c.args.place _ _ (part_length bs at 32 (omega arith)) c.keyed_row-row.ensures c.tail_of-t.ensures in
    c.has_digest.ensures ∙ ap (λ (d : List ℕ). same d (piece bs c.args.posted_at 32)) (is ∙ ap (commitment c.args.p c.args.place) opened)
