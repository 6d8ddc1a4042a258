-- `reader::found_at` meets its contract: what `command` answers, located.
use mathlib.Core.Path.{◌≡◌, sym, ◌∙◌}
use Prim.Native.Nat.{ℕ}
use Rattle.std.proofs.Common.{Ok, Err, Result, rules}
use Rattle.std.specs.Bool.{⊤}
use Rattle.std.specs.Result.{MatchResult, IsErrAnd}
use Rattle.protocol.specs.declared.Fault as code
use Rattle.protocol.specs.declared.Rule.{Rule}
use Rattle.protocol.specs.Answers.{number_in, found_in}
use Rattle.protocol.proofs.Answered.{rule_positive}
use Rattle.protocol.specs.Judging.{found_with}
use Rattle.laws.specs.Faults.{located, located_at, located_nothing}
use Rattle.reader.proofs.found_at.Goals as goal

found_as : (a : Result ⊤ Rule) (b : Result ⊤ code.Fault) (at : ℕ) {place k : ℕ} → at ≡ place
    → MatchResult a (λ x. b ≡ Ok x) (λ e. IsErrAnd b (λ f. f ≡ record { rule = e; at = at })) → number_in a ≡ k → found_in b ≡ located place k
found_as (Ok x) b at {place} {k} here h e = rw h (sym ((located_nothing place k).1 (sym e)))
found_as (Err rule) (Ok x) at here h e = absurd h
found_as (Err rule) (Err f) at {place} {k} here h e = rw (h, here, e) (located_at place k (λ z. rule_positive rule (e ∙ z)))

pub returns : goal.returns
unfolding found_with
returns c = found_as c.command.result _ c.args.r.at c.requires.0 (search rules) c.command.ensures
