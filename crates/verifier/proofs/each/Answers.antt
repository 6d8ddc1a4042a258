-- `verifier::each` meets its contract: no search so far found anything.
use Rattle.std.proofs.Common.{Err, refl, sym, arith}
use Rattle.laws.specs.Faults.{first_more, row_start, row_stop}
use Rattle.verifier.proofs.each.Goals as goal

pub loop-i-init : goal.loop-i-init
loop-i-init g c = λ f h. row_start f

pub returns-in_err-search : goal.returns-in_err-search
returns-in_err-search g c = λ f h.
    let found = h c.loop-i.i (Err c.in_err-search.field-0.0) c.loop-i-test.true c.in_err-search.ensures in
    let stop = row_stop f c.args.n c.loop-i.i c.loop-i-test.true (c.loop-i.invariant f h) found refl in
    grind arith

pub loop-i-preserved : goal.loop-i-preserved
loop-i-preserved g c = λ f h.
    first_more f c.loop-i.i (c.loop-i.invariant f h) (sym (h c.loop-i.i _ c.loop-i-test.true c.in_ok-search.ensures))
