-- `results::receipts::look_among` meets its contract: no ballot passed has a fault, and each has a smaller id than the one sought.
use mathlib.Core.Path.{◌≡◌, refl, ap, ◌∙◌}
use mathlib.Core.Bool.{false}
use Prim.Native.Nat.{ℕ, ◌+◌}
use native.Mathlib.Omega.{arith}
use borrow.Author.Count.{below_more}
use Rattle.laws.specs.Faults.{Nothing, first_more, row_start}
use Rattle.laws.specs.Bytes.{number}
use Rattle.protocol.specs.declared.Due.TheVariants.{Ballot}
use Rattle.protocol.specs.Layout.{at_ballot}
use Rattle.protocol.specs.Record.{id_of}
use Rattle.protocol.specs.Judging.{found}
use Rattle.results.specs.Ready.{BallotReady}
use Rattle.results.proofs.Reaching.{ballot_ready}
use Rattle.results.proofs.Looking.{looked_refused, looked_stopped, looked_through}
use Rattle.results.proofs.receipts.look_among.Goals as goal
use Rattle.results.proofs.receipts.look_among.Goals.{After-read4, In_default}

pub loop-j-init : goal.loop-j-init
loop-j-init c = record { none = row_start _; smaller = λ i l. absurd (omega arith) }

pub returns-in-Err : goal.returns-in-Err
returns-in-Err c =
    let s = c.args in
    let before = c.loop-j.invariant in
    looked_refused s.p s.bytes.now s.printed.now c.loop-j.j (omega arith) before.none before.smaller c.in-Err.ensures refl

-- the ballot stands
stands : (c : In_default) → (let s = c.args in found false s.p s.bytes.now (Ballot c.loop-j.j) ≡ Nothing)
stands c = grind arith

ready : (c : In_default) → (let s = c.args in BallotReady s.p s.bytes.now s.printed.now c.loop-j.j)
ready c =
    let s = c.args in
    ballot_ready s.p s.bytes.now s.printed.now c.loop-j.j (omega (arith, c.requires.few)) (stands c) c.requires.long

pub read4-requires : goal.read4-requires
unfolding at_ballot
read4-requires c = omega (arith, c.at_ballot-at.ensures.0, (ready (goal.at.read4-requires c).In_default).reaches)

-- its id
id_read : (c : After-read4) → (let s = c.args in c.read4.result ≡ id_of s.p s.bytes.now c.loop-j.j)
unfolding id_of
id_read c = c.read4.ensures.0 ∙ ap (λ (a : ℕ). number c.args.bytes.now (a + 1) 4) c.at_ballot-at.ensures.0

pub receipt_with-requires : goal.receipt_with-requires
receipt_with-requires c = ready (goal.at.receipt_with-requires c).In_default

pub returns-then-sought-read4 : goal.returns-then-sought-read4
returns-then-sought-read4 c =
    let s = c.args in
    let before = c.loop-j.invariant in
    looked_stopped s.p s.bytes.now s.printed.now c.loop-j.j (omega arith) before.none before.smaller (stands (goal.at.returns-then-sought-read4 c).In_default)
    (omega (arith, c.if-sought-read4.true, id_read (goal.at.returns-then-sought-read4 c).After-read4, c.read4-sought.ensures.0)) c.receipt_with.ensures

pub loop-j-preserved : goal.loop-j-preserved
loop-j-preserved c =
    let before = c.loop-j.invariant in
    record {
      none = first_more _ _ before.none (stands (goal.at.loop-j-preserved c).In_default);
      smaller = below_more _ _ before.smaller (omega (arith, c.if-sought-read4.false, id_read (goal.at.loop-j-preserved c).After-read4, c.read4-sought.ensures.0));
    }

pub returns : goal.returns
returns c =
    let s = c.args in
    looked_through s.p s.bytes.now s.printed.now c.loop-j.j (omega arith) (omega arith) c.loop-j.invariant.none c.loop-j.invariant.smaller
