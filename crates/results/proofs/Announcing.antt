-- The announced votes as they are read, and which answer follows from the first fault and the output's length.
use mathlib.Core.Path.{◌≡◌, refl, sym, ap, ◌∙◌}
use mathlib.Core.Logic.{◌≢◌}
use mathlib.Core.Bool.{false}
use mathlib.Core.List.{List, []}
use Prim.Native.Nat.{ℕ, ◌+◌, ◌*◌}
use native.Mathlib.Omega.{arith}
use lib.ListN.{length}
use Rattle.std.specs.Prelude.{Ok, Err, ⊤}
use Rattle.laws.specs.Faults.{Nothing, Fault}
use Rattle.laws.specs.Bytes.{number}
use Rattle.laws.specs.Tests.{equal, is_equal, not_equal, choose_clear, choose_set}
use Rattle.laws.specs.Tables.{tabulate, same_tabulate}
use Rattle.laws.specs.Faults.{rule, number_of, rule_go, rule_stop}
use Rattle.protocol.specs.declared.Parameters.{Parameters}
use Rattle.protocol.specs.declared.Rule.{Rule}
use Rattle.protocol.specs.declared.Rule.TheVariants.{Length}
use Rattle.protocol.specs.Answers.{answer_of, rule_number, written_answer}
use Rattle.protocol.specs.Layout.{at_vote}
use Rattle.protocol.specs.Record.{parameters_of, vote_of}
use Rattle.protocol.specs.Refusals.{afterwards}
use Rattle.protocol.specs.Judging.{first_fault}
use Rattle.protocol.specs.Results.{announced_votes, announced_refusal}
use Rattle.protocol.proofs.Answered.{rule_positive, unwritten, wrote}

module _ (r : List ℕ) where
  -- the votes as they are read, one behind the other
  pub votes_read : {p : Parameters} {at n : ℕ} → p ≡ parameters_of r → at ≡ at_vote p 0 → n ≡ p.ballots
      → tabulate (λ i. number r (at + 3 + 7 * i) 4) n ≡ announced_votes r
  unfolding announced_votes vote_of at_vote
  votes_read {p} {at} {n} s a m =
      let q = parameters_of r in
      let b : n ≡ q.ballots = m ∙ ap (λ (x : Parameters). x.ballots) s in
      let c : at ≡ at_vote q 0 = a ∙ ap (λ (x : Parameters). at_vote x 0) s in
      ap (tabulate (λ i. number r (at + 3 + 7 * i) 4)) b
      ∙ same_tabulate (λ i. number r (at + 3 + 7 * i) 4) (vote_of q r) q.ballots
      (λ i l. ap (λ (x : ℕ). number r x 4) (let z : at + 3 + 7 * i ≡ at_vote q i + 3 = omega arith in z))

  module _ (out : List ℕ) where
    accepted_number : (n : ℕ) → first_fault false r ≡ Nothing → rule 18 (equal n (parameters_of r).ballots) 0 ≡ announced_refusal r n
    unfolding announced_refusal number_of
    accepted_number n e =
        sym (choose_clear (number_of (first_fault false r)) (rule 18 (equal n (parameters_of r).ballots) 0) (number_of (first_fault false r)) (ap number_of e))

    pub votes_refused : (broken : Rule) {place : ℕ} → Fault (rule_number broken) place ≡ first_fault false r
        → (written_answer (Err broken) ≡ answer_of (announced_refusal r (length out)) [])
        × (out ≡ afterwards (announced_refusal r (length out)) out (announced_votes r))
    unfolding announced_refusal number_of
    votes_refused broken e =
        let w : rule_number broken ≡ number_of (first_fault false r) = ap number_of e in
        unwritten broken _ out (announced_votes r)
        (w ∙ sym (choose_set (number_of (first_fault false r)) (rule 18 (equal (length out) (parameters_of r).ballots) 0) (number_of (first_fault false r)) (λ z. rule_positive broken (w ∙ z))))

    pub votes_unfit : {p : Parameters} → first_fault false r ≡ Nothing → p ≡ parameters_of r → length out ≢ p.ballots
        → (written_answer (Err Length) ≡ answer_of (announced_refusal r (length out)) [])
        × (out ≡ afterwards (announced_refusal r (length out)) out (announced_votes r))
    votes_unfit e s ne =
        unwritten Length _ out (announced_votes r)
        (rule_stop 18 (equal (length out) (parameters_of r).ballots) 0 (not_equal (λ z. ne (z ∙ ap (λ (x : Parameters). x.ballots) (sym s)))) ∙ accepted_number (length out) e)

    pub votes_written : {u : ⊤} {p : Parameters} {after : List ℕ} → first_fault false r ≡ Nothing → p ≡ parameters_of r → length out ≡ p.ballots
        → after ≡ announced_votes r
        → (written_answer (Ok u) ≡ answer_of (announced_refusal r (length out)) [])
        × (after ≡ afterwards (announced_refusal r (length out)) out (announced_votes r))
    votes_written {u} e s l h =
        wrote {u = u} _ out _ (announced_votes r)
        (rule_go 18 (equal (length out) (parameters_of r).ballots) 0 (is_equal (l ∙ ap (λ (x : Parameters). x.ballots) s)) refl ∙ accepted_number (length out) e)
        h
