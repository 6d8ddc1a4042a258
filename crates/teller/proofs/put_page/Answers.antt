-- `teller::put_page` meets its contract: the length is tested first, and then the first fault, judged as drawn.
use mathlib.Core.Path.{sym}
use native.Mathlib.Omega.{arith}
use Rattle.teller.proofs.Paged.{too_long, counted, refused}
use Rattle.teller.proofs.put_page.Goals as goal

pub returns-then-bytes-gt-LONGEST_RECORD : goal.returns-then-bytes-gt-LONGEST_RECORD
returns-then-bytes-gt-LONGEST_RECORD c =
    let written = too_long c.args.candidates _ c.if-bytes-gt-LONGEST_RECORD.true c.copy.ensures in
    record { output = written.0; answer = written.1 }

pub returns-in-Ok : goal.returns-in-Ok
returns-in-Ok c =
    let written = counted c.args.candidates c.args.bytes.now (omega arith) (sym c.in-Ok.ensures) c.put_counted.ensures in
    record { output = written.0; answer = written.1 }

pub returns-in-Err : goal.returns-in-Err
returns-in-Err c =
    let written = refused c.args.candidates c.args.bytes.now _ (omega arith) (sym c.in-Err.ensures) (rw c.number.ensures.0 at c.put_refused.ensures) in
    record { output = written.0; answer = written.1 }
