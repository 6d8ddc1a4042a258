-- `results::receipts::receipt_among` meets its contract: the answer of the ballots passed.
use mathlib.Core.Path.{◌≡◌, refl, ap, ◌∙◌}
use mathlib.Core.List.{List}
use Prim.Native.Nat.{ℕ, ◌+◌}
use native.Mathlib.Numerals.{add-one}
use native.Mathlib.Omega.{arith}
use Rattle.laws.specs.Bytes.{number}
use Rattle.laws.specs.Tests.{equal, pick}
use Rattle.protocol.specs.declared.Parameters.{Parameters}
use Rattle.protocol.specs.Record.{id_of}
use Rattle.protocol.specs.Results.{receipt_at, receipt_among}
use Rattle.results.proofs.Reaching.{each_ready}
use Rattle.results.proofs.receipts.receipt_among.Goals as goal

pub loop-j-init : goal.loop-j-init
unfolding receipt_among
loop-j-init c = refl

pub receipt_with-answer-requires : goal.receipt_with-answer-requires
receipt_with-answer-requires c = each_ready c.requires c.loop-j.j (omega arith)

-- one ballot more
more : (p : Parameters) (r printed : List ℕ) (j : ℕ) {next given : List ℕ} → next ≡ pick (equal (id_of p r j) (number printed 0 4)) (receipt_at p r printed j) given
    → given ≡ receipt_among p r printed j → next ≡ receipt_among p r printed (j + 1)
unfolding receipt_among
more p r printed j e f = rw add-one (e ∙ ap (pick (equal (id_of p r j) (number printed 0 4)) (receipt_at p r printed j)) f)

pub loop-j-preserved : goal.loop-j-preserved
loop-j-preserved c =
    let s = c.args in
    more s.p s.bytes.now s.printed.now c.loop-j.j c.receipt_with-answer.ensures c.loop-j.invariant

pub returns : goal.returns
returns c =
    let s = c.args in
    let e : c.loop-j.j ≡ s.p.ballots = omega arith in
    c.loop-j.invariant ∙ ap (λ (j : ℕ). receipt_among s.p s.bytes.now s.printed.now j) e
