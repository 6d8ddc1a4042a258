-- `results::receipts::receipt_with` meets its contract: ballot j decides where its id is the printed one.
use mathlib.Core.Path.{◌≡◌, sym, ap, ◌∙◌}
use native.Mathlib.Omega.{arith}
use Prim.Native.Nat.{ℕ, ◌+◌}
use Rattle.laws.specs.Bytes.{number}
use Rattle.laws.specs.Tests.{is_equal, not_equal}
use Rattle.protocol.specs.Layout.{at_ballot}
use Rattle.protocol.specs.Record.{id_of}
use Rattle.results.proofs.receipts.receipt_with.Goals as goal
use Rattle.results.proofs.receipts.receipt_with.Goals.{After-read4}

pub read4-requires : goal.read4-requires
unfolding at_ballot
read4-requires c = omega (arith, c.at_ballot.ensures.0, c.requires.reaches)

id_read : (c : After-read4) → (let s = c in c.read4.result ≡ id_of s.args.p s.args.bytes.now s.args.j)
unfolding id_of
id_read c = let s = c in c.read4.ensures.0 ∙ ap (λ (a : ℕ). number s.args.bytes.now (a + 1) 4) c.at_ballot.ensures.0

pub returns-then-read4 : goal.returns-then-read4
returns-then-read4 c = rw (is_equal (sym (id_read (goal.at.returns-then-read4 c).After-read4) ∙ c.if-read4.true ∙ c.read4-2.ensures.0)) c.receipt_at.ensures

pub returns : goal.returns
returns c = rw (not_equal (λ e. c.if-read4.false (id_read (goal.at.returns c).After-read4 ∙ e ∙ sym c.read4-2.ensures.0)))
