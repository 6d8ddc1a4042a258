-- `scrutineer::put_page` meets its contract: the length is tested first, and then the first fault, judged as drawn.
use mathlib.Core.Path.{sym, ap, ◌∙◌}
use Prim.Native.Nat.{ℕ}
use native.Mathlib.Omega.{arith}
use Rattle.laws.specs.Faults.{Fault}
use Rattle.results.proofs.Paging.{too_long, accepted, refused}
use Rattle.scrutineer.proofs.put_page.Goals as goal

pub returns-then-bytes-gt-LONGEST_RECORD : goal.returns-then-bytes-gt-LONGEST_RECORD
returns-then-bytes-gt-LONGEST_RECORD c =
    let written = too_long _ c.if-bytes-gt-LONGEST_RECORD.true c.copy.ensures in
    record { output = written.0; answer = written.1 }

pub returns-in-Ok : goal.returns-in-Ok
returns-in-Ok c =
    let written = accepted c.args.bytes.now (omega arith) (sym c.in-Ok.ensures) c.put_accepted.ensures in
    record { output = written.0; answer = written.1 }

pub returns-in-Err : goal.returns-in-Err
returns-in-Err c =
    let written = refused c.args.bytes.now _ (omega arith) (sym c.in-Err.ensures ∙ ap (λ (k : ℕ). Fault k c.in-Err.fault.at) (sym c.number.ensures.0)) c.put_refused.ensures in
    record { output = written.0; answer = written.1 }
