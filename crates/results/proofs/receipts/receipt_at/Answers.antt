-- `results::receipts::receipt_at` meets its contract: the hash of the ballot's command is compared with the printed one.
use mathlib.Core.Path.{◌≡◌, sym, ap, ◌∙◌}
use mathlib.Core.Bool.{Bool}
use Prim.Native.Nat.{ℕ}
use native.Mathlib.Omega.{arith}
use lib.ListN.{length}
use Rattle.laws.specs.Tests.{same, pick}
use Rattle.laws.specs.Chunks.{piece}
use Rattle.laws.specs.Writing.{part_is}
use Rattle.sha3.specs.Sha3.{sha3_224}
use Rattle.sha3.proofs.Digest.{sha3_224_length}
use Rattle.protocol.specs.Answers.{as_printed, otherwise}
use Rattle.protocol.specs.Layout.{at_ballot}
use Rattle.protocol.specs.Results.{receipt_at}
use Rattle.results.proofs.receipts.receipt_at.Goals as goal
use Rattle.results.proofs.receipts.receipt_at.Goals.{After-same_bytes}

pub slice_bounds-sha3_224-end : goal.slice_bounds-sha3_224-end
unfolding at_ballot
slice_bounds-sha3_224-end c = omega (arith, c.at_ballot-at.ensures.0, c.requires.reaches)

pub slice_bounds-same_bytes-end-2 : goal.slice_bounds-same_bytes-end-2
slice_bounds-same_bytes-end-2 c = omega (arith, ap length c.sha3_224.ensures ∙ sha3_224_length _)

-- the test that the code makes is the definition's
tested : (c : After-same_bytes) →
    (let s = c in
    let r = s.args.bytes.now in
    (x : Bool) → c.same_bytes.result ≡ x → pick x as_printed otherwise ≡ receipt_at s.args.p r s.args.printed.now s.args.j)
unfolding receipt_at
tested c x e =
    let s = c in
    let at = c.at_ballot-at in
    ap (λ (b : Bool). pick b as_printed otherwise)
    (sym e ∙ c.same_bytes.ensures
    ∙ ap (same _) (c.sha3_224.ensures ∙ ap sha3_224 (part_is s.args.bytes.now at.result 197) ∙ ap (λ (a : ℕ). sha3_224 (piece s.args.bytes.now a 197)) at.ensures.0))

pub returns-then-same_bytes : goal.returns-then-same_bytes
returns-then-same_bytes c = tested (goal.at.returns-then-same_bytes c).After-same_bytes _ c.if-same_bytes.true

pub returns : goal.returns
returns c = tested (goal.at.returns c).After-same_bytes _ c.if-same_bytes.false
