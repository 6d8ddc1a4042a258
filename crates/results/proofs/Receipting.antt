-- Which answer of the receipt check follows from the receipt's length and the first fault.
use mathlib.Core.Path.{◌≡◌, refl, sym, ap, ◌∙◌}
use mathlib.Core.Logic.{◌≢◌}
use mathlib.Core.List.{List}
use Prim.Native.Nat.{ℕ}
use native.Mathlib.Omega.{arith}
use lib.ListN.{length}
use Rattle.laws.specs.Faults.{Found, Nothing, Fault}
use Rattle.laws.specs.Tests.{equal, is_equal, not_equal}
use Rattle.laws.specs.Faults.{number_of, nothing_fault, rule_go, rule_stop, Numbered, numbered}
use Rattle.protocol.specs.declared.Parameters.{Parameters}
use Rattle.protocol.specs.Answers.{Answer, done, refused}
use Rattle.protocol.specs.Record.{parameters_of}
use Rattle.protocol.specs.Judging.{found_with, ballot_faults}
use Rattle.protocol.specs.Results.{receipt_refusal, receipt_among, receipt_checked}
use Rattle.protocol.proofs.Answered.{refused_is, done_is}
use Rattle.results.proofs.Reaching.{head_fault}

module _ (r printed : List ℕ) where
  head_numbered : Numbered (head_fault r)
  unfolding ballot_faults found_with
  head_numbered = search numbered depth 12

  pub receipt_short : length printed ≢ 32 → refused 18 ≡ receipt_checked r printed
  unfolding receipt_checked receipt_refusal
  receipt_short ne = refused_is 18 _ _ (rule_stop 18 (equal (length printed) 32) (number_of (head_fault r)) (not_equal ne)) (λ z. omega arith)

  receipt_number : {f : Found} → length printed ≡ 32 → head_fault r ≡ f → number_of f ≡ receipt_refusal r printed
  unfolding receipt_refusal
  receipt_number l e = rule_go 18 (equal (length printed) 32) (number_of (head_fault r)) (is_equal l) (sym (ap number_of e))

  pub receipt_refused : (k : ℕ) {place : ℕ} → length printed ≡ 32 → head_fault r ≡ Fault k place → refused k ≡ receipt_checked r printed
  unfolding receipt_checked number_of
  receipt_refused k l e = refused_is k _ _ (receipt_number l e) (λ z. nothing_fault (head_numbered.nothing (ap number_of e ∙ z)) e)

  pub receipt_answered : {p : Parameters} {answer : Answer} → length printed ≡ 32 → head_fault r ≡ Nothing → p ≡ parameters_of r
      → answer ≡ done (receipt_among p r printed p.ballots) → answer ≡ receipt_checked r printed
  unfolding receipt_checked number_of
  receipt_answered l e s h =
      h ∙ ap (λ (q : Parameters). done (receipt_among q r printed q.ballots)) s ∙ done_is 0 _ _ (receipt_number l e) refl
