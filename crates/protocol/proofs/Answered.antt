-- What an answer's number says; and the two ways in which a writer's call ends, k being what its tests answered: refused, with its output as
-- it was before, and done.
use mathlib.Core.Path.{◌≡◌, refl, sym, ap, ◌∙◌}
use mathlib.Core.Logic.{◌≢◌}
use mathlib.Core.List.{List, []}
use Prim.Native.Nat.{ℕ, zero, suc}
use Rattle.std.specs.Prelude.{Ok, Err, ⊤}
use Rattle.std.proofs.Common.{arith}
use Rattle.protocol.specs.declared.Rule.{Rule}
use Rattle.protocol.specs.Answers.{done, refused, answer_of, rule_number, written_answer}
use Rattle.protocol.specs.Refusals.{afterwards}

-- no rule has the number 0
pub rule_positive : (rule : Rule) → rule_number rule ≢ 0
rule_positive rule = grind arith

-- where a rule is broken its number is the answer, and where none is the values are
pub refused_is : (k refusal : ℕ) (values : List ℕ) → k ≡ refusal → k ≢ 0 → refused k ≡ answer_of refusal values
unfolding answer_of
refused_is zero refusal values e ne = absurd (ne refl)
refused_is (suc k) refusal values e ne = ap (λ (x : ℕ). answer_of x values) e

pub done_is : (k refusal : ℕ) (values : List ℕ) → k ≡ refusal → k ≡ 0 → done values ≡ answer_of refusal values
unfolding answer_of
done_is k refusal values e z = ap (λ (x : ℕ). answer_of x values) (sym z ∙ e)

pub unwritten : (rule : Rule) (refusal : ℕ) (before written : List ℕ) → rule_number rule ≡ refusal
    → (written_answer (Err rule) ≡ answer_of refusal []) × (before ≡ afterwards refusal before written)
unfolding afterwards
unwritten rule refusal before written e = go (rule_number rule) e (rule_positive rule)
  where
    go : (k : ℕ) → k ≡ refusal → k ≢ 0 → (refused k ≡ answer_of refusal []) × (before ≡ afterwards refusal before written)
    go zero e ne = absurd (ne refl)
    go (suc k) e ne = (refused_is (suc k) refusal [] e ne, ap (λ (x : ℕ). afterwards x before written) e)

pub wrote : {u : ⊤} (refusal : ℕ) (before after written : List ℕ) → 0 ≡ refusal → after ≡ written
    → (written_answer (Ok u) ≡ answer_of refusal []) × (after ≡ afterwards refusal before written)
unfolding afterwards
wrote refusal before after written e h = (done_is 0 refusal [] e refl, h ∙ ap (λ (x : ℕ). afterwards x before written) e)
