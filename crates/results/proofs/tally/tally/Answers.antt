-- `results::tally::tally` meets its contract: what is not refused is ready to be tallied.
use mathlib.Core.Path.{◌≡◌, refl, ap, ◌∙◌}
use mathlib.Core.List.{[], ◌∷◌}
use Prim.Native.Nat.{ℕ}
use native.Mathlib.Omega.{arith}
use Rattle.protocol.specs.Answers.{done, refused, rule_number, tally_answer}
use Rattle.protocol.specs.Results.{tallied}
use Rattle.protocol.proofs.Answered.{rule_positive, refused_is, done_is, unwritten, wrote}
use Rattle.results.proofs.Tallied.{ready}
use Rattle.results.proofs.tally.tally.Goals as goal

pub returns-in_err-refuse : goal.returns-in_err-refuse
unfolding tallied
returns-in_err-refuse c =
    let broken = c.in_err-refuse.field-0.0 in
    let e = c.in_err-refuse.ensures in
    let answer : tally_answer c.from_residual.result ≡ refused (rule_number broken) = grind arith in
    record {
      answer = answer ∙ refused_is (rule_number broken) _ _ e (rule_positive broken);
      values = (unwritten broken _ _ _ e).1;
      counts = (unwritten broken _ _ _ e).1;
    }

pub fill-requires : goal.fill-requires
fill-requires c = ready _ _ _ 0 c.in_ok-refuse.ensures refl

pub returns : goal.returns
unfolding tallied
returns c =
    let e = c.in_ok-refuse.ensures in
    let filled = c.fill.ensures in
    record {
      answer = ap (λ (n : ℕ). done (n ∷ [])) filled.answer ∙ done_is 0 _ _ e refl;
      values = (wrote {u = tt} _ _ _ _ e filled.values).1;
      counts = (wrote {u = tt} _ _ _ _ e filled.counts).1;
    }
