-- How an election ends: refused, with every buffer as it was, or accepted.
use mathlib.Core.Path.{◌≡◌, refl, sym, ap}
use mathlib.Core.Logic.{◌≢◌}
use mathlib.Core.Bool.{true, false}
use Prim.Native.Nat.{ℕ, zero, suc}
use native.Mathlib.Omega.{arith}
use Rattle.laws.specs.Sorting.{sort}
use Rattle.protocol.specs.declared.Rule.{Rule}
use Rattle.protocol.specs.Answers.{answer_of, refused, accepted, rule_number}
use Rattle.protocol.proofs.Answered.{rule_positive}
use Rattle.protocol.specs.Refusals.{afterwards}
use Rattle.protocol.specs.Judging.{judged}
use Rattle.protocol.specs.Results.{announced_votes}
use Rattle.protocol.specs.Election.{drawn, election_refusal}
use Rattle.protocol.proofs.Goodness.{FourBytes}
use Rattle.protocol.proofs.Completeness.{none_refused, complete, complete_drawn}
use Rattle.election.specs.Holding.{Lent, Buffers, refusal_of, parts_of, Held}

-- where nothing is refused
module _ (e : Lent) (one two three joined : ℕ) (h : 0 ≡ election_refusal e.slices e.mask e.first_dice e.sides e.second_dice one two three joined)
    (fit : FourBytes e.slices) where
  judgement : (judged false (parts_of e).joined ≡ accepted) × (announced_votes (parts_of e).joined ≡ sort e.slices.votes)
  judgement = complete e.slices e.mask e.first_dice e.sides e.second_dice fit (none_refused e.slices e.mask e.first_dice e.sides e.second_dice one two three joined (sym h))

  all_drawn : e.mask ≡ drawn → e.sides ≡ drawn → judged true (parts_of e).joined ≡ accepted
  all_drawn off₁ off₂ =
      rw (off₁, off₂)
      (complete_drawn e.slices e.first_dice e.second_dice fit (none_refused e.slices drawn e.first_dice drawn e.second_dice one two three joined (rw (off₁, off₂) at (sym h))))

  pub never_rejected : {after : Buffers} {broken : ℕ} → after ≡ parts_of e → judged false after.joined ≡ refused broken → ⊥
  never_rejected p v = let w : judged false (parts_of e).joined ≡ refused _ = rw p at v in let x : ◌≡◌ {A = ℕ} 0 1 = cc judgement.0 in omega arith

module _ (e : Lent) (before : Buffers) where
  held_number : (k : ℕ) → k ≡ refusal_of e before → k ≢ 0 → Held e before before (refused k)
  unfolding answer_of afterwards
  held_number zero h ne = absurd (ne refl)
  held_number (suc k) h ne = record {
    answers = rw (← h);
    one = rw (← h);
    two = rw (← h);
    three = rw (← h);
    joined = rw (← h);
    accepts = λ z. absurd (omega arith);
    announces = λ z. absurd (omega arith);
    accepts_drawn = λ off₁ off₂ z. absurd (omega arith);
  }

  pub held_refused : (rule : Rule) → rule_number rule ≡ refusal_of e before → Held e before before (refused (rule_number rule))
  held_refused rule h = held_number (rule_number rule) h (rule_positive rule)

  pub held_accepted : {after : Buffers} → 0 ≡ refusal_of e before → FourBytes e.slices
      → after ≡ parts_of e → Held e before after accepted
  unfolding answer_of afterwards
  held_accepted h fit w =
      let none : refusal_of e before ≡ 0 = sym h in
      let (good, votes) = judgement e _ _ _ _ h fit in
      record {
        answers = rw (none, good);
        one = rw none (ap (λ (b : Buffers). b.one) w);
        two = rw none (ap (λ (b : Buffers). b.two) w);
        three = rw none (ap (λ (b : Buffers). b.three) w);
        joined = rw none (ap (λ (b : Buffers). b.joined) w);
        accepts = λ _. refl;
        announces = λ _. rw w votes;
        accepts_drawn = λ off₁ off₂ _. rw w (all_drawn e _ _ _ _ h fit off₁ off₂);
      }
