-- `paddockyear::paddockyear_first_fault` meets its contract, case by case.
use mathlib.Core.Path.{sym, ap, ◌∙◌}
use Rattle.laws.specs.Faults.{Found}
use Rattle.laws.specs.Tests.{differ}
use Rattle.laws.specs.Faults.{number_of}
use Rattle.paddockyear.specs.Codes.{place_in}
use Rattle.paddockyear.proofs.paddockyear_first_fault.Goals as goal

pub returns-in-Ok : goal.returns-in-Ok
unfolding differ number_of place_in
returns-in-Ok c =
    let e = sym c.in-Ok.ensures in
    (sym (ap number_of e), sym (ap (λ (f : Found). place_in f c.args.place.now) e))

pub returns-in-Err : goal.returns-in-Err
unfolding differ number_of place_in
returns-in-Err c =
    let e = sym c.in-Err.ensures in
    (c.number.ensures.0 ∙ sym (ap number_of e), sym (ap (λ (f : Found). place_in f c.args.place.now) e))
