-- What the runoff answers and fills, where it refuses and where it does not.
use mathlib.Core.Path.{◌≡◌, refl, sym, ap, ap₂, ◌∙◌}
use mathlib.Core.List.{List, [], ◌∷◌}
use Prim.Native.Nat.{ℕ, ◌≤◌}
use lib.ListN.{length, take}
use Rattle.std.specs.Prelude.{Option, Err, unwrap_or}
use Rattle.laws.specs.Tests.{choose_clear, choose_set}
use Rattle.laws.specs.Faults.{rules}
use Rattle.protocol.specs.declared.Rule.{Rule}
use Rattle.protocol.specs.Answers.{done, rule_number}
use Rattle.protocol.proofs.Answered.{rule_positive, refused_is, done_is}
use Rattle.runoff.specs.Rounds.{candidate, runoff_refusal, result, entries, table, winner, blank_votes, spoiled_votes, ran_off, runoff_answer, table_after}
use Rattle.runoff.specs.declared.Candidate.{Candidate}
use Rattle.runoff.specs.declared.Standings.{Standings}
use Rattle.runoff.proofs.Outcomes.{number_is}

-- what is not refused
pub fitting : (candidates table_long : ℕ) → 0 ≡ runoff_refusal candidates table_long → (candidates ≤ 9) × (table_long ≡ candidates)
unfolding runoff_refusal
fitting candidates table_long none = let ((a, b), (c, d)) = simp rules at (sym none) in (b, c)

module _ (candidates : ℕ) (votes : List ℕ) (before : List Candidate) where
  pub refused : (rule : Rule) → rule_number rule ≡ runoff_refusal candidates (length before)
      → (runoff_answer (Err rule) ≡ ran_off candidates votes (length before)) × (before ≡ table_after candidates votes before)
  unfolding ran_off table_after
  refused rule e = (refused_is _ _ _ e (rule_positive rule), sym (choose_set _ _ before (λ z. rule_positive rule (e ∙ z))))

  module _ (none : 0 ≡ runoff_refusal candidates (length before)) {s : Standings} (is : s ≡ result candidates votes) where
    pub won : {o : Option ℕ} → o ≡ candidate s.winner → o ≡ candidate (winner candidates votes)
    unfolding winner
    won e = e ∙ ap (λ (t : Standings). candidate t.winner) is

    pub answered : {o : Option ℕ} {blank spoiled : ℕ} → o ≡ candidate s.winner → blank ≡ blank_votes votes → spoiled ≡ spoiled_votes candidates votes
        → done (unwrap_or o 0 ∷ blank ∷ spoiled ∷ []) ≡ ran_off candidates votes (length before)
    unfolding ran_off
    answered {o} e b p =
        let w : unwrap_or o 0 ≡ winner candidates votes = ap (λ (q : Option ℕ). unwrap_or q 0) (won e) ∙ number_is (winner candidates votes) in
        rw (w, b, p) (done_is 0 _ _ none refl)

    pub filled : {t : List Candidate} → t ≡ take (length before) (entries s.counts s.left) → t ≡ table_after candidates votes before
    unfolding table_after table
    filled h =
        h ∙ ap₂ (λ (n : ℕ) (x : Standings). take n (entries x.counts x.left)) (fitting _ _ none).1 is ∙ sym (choose_clear _ _ before (sym none))
