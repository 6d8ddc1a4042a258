-- `refusals::due_lengths` meets its contract, one length after the other.
use mathlib.Core.Path.{◌≡◌, ap, ◌∙◌}
use mathlib.Core.Bool.{Bool}
use Prim.Native.Nat.{◌+◌, ◌*◌}
use native.Mathlib.Omega.{arith}
use lib.ListN.{length}
use Rattle.laws.specs.Tests.{equal, ◌and◌, is_equal, not_equal, and_go, and_stop, equal_is}
use Rattle.protocol.specs.Refusals.{due_lengths}
use Rattle.refusals.proofs.Tests.{and_assoc, long}
use Rattle.refusals.proofs.due_lengths.Goals as goal
use Rattle.refusals.proofs.due_lengths.Goals.{Joined-s-p, Joined-s-p-2, Joined-s-p-3, then-s-p, else-s-p, then-s-p-2, else-s-p-2, then-s-p-3, else-s-p-3}

-- the first two, three and four tests, joined
two : (c : Joined-s-p) → let s = c.s.inside in c.if-s-p.value ≡ (equal (length s.ids.now) s.parameters.ballots and equal (length s.votes.now) s.parameters.ballots)
two c =
    elim c.if-s-p.branch [
      | then-s-p w ↦ w.value-is ∙ and_go _ _ (is_equal w.if-s-p.true) (equal_is _ _)
      | else-s-p w ↦ w.value-is ∙ equal_is _ _ ∙ not_equal w.if-s-p.false ∙ and_stop _ _ (not_equal w.if-s-p.false)
    ]

three : (c : Joined-s-p-2) → let s = c.s.inside in
    c.if-s-p-2.value ≡ (c.if-s-p.value and equal (length s.numbers.now) (5 * s.parameters.ballots + 18 * (s.parameters.compared * s.parameters.ballots)))
three c =
    elim c.if-s-p-2.branch [
      | then-s-p-2 w ↦ w.value-is ∙ and_go _ _ w.if-s-p-2.true (long _ (omega arith))
      | else-s-p-2 w ↦ w.value-is ∙ w.if-s-p-2.false ∙ and_stop _ _ w.if-s-p-2.false
    ]

four : (c : Joined-s-p-3) → let s = c.s.inside in
    c.if-s-p-3.value ≡ (c.if-s-p-2.value and equal (length s.permutations.now) (6 * (s.parameters.compared * s.parameters.ballots)))
four c =
    elim c.if-s-p-3.branch [
      | then-s-p-3 w ↦ w.value-is ∙ and_go _ _ w.if-s-p-3.true (long _ (omega arith))
      | else-s-p-3 w ↦ w.value-is ∙ w.if-s-p-3.false ∙ and_stop _ _ w.if-s-p-3.false
    ]

-- .. and all five, grouped as the definition has them
five : (a b c d e : Bool) {v₂ v₃ v₄ r : Bool} → v₂ ≡ (a and b) → v₃ ≡ (v₂ and c) → v₄ ≡ (v₃ and d) → r ≡ (v₄ and e) → r ≡ (a and (b and (c and (d and e))))
five a b c d e f g h k =
    k ∙ ap (λ (x : Bool). x and e) (h ∙ ap (λ (x : Bool). x and d) (g ∙ ap (λ (x : Bool). x and c) f))
    ∙ simp and_assoc

pub returns-then-s-entries : goal.returns-then-s-entries
unfolding due_lengths
returns-then-s-entries c =
    let at = (goal.at.returns-then-s-entries c).Joined-s-p-3 in
    let at₃ = (goal.at.returns-then-s-entries c).Joined-s-p-2 in
    let at₂ = (goal.at.returns-then-s-entries c).Joined-s-p in
    rw (← c.s.view_is) (five _ _ _ _ _ (two at₂) (three at₃) (four at) (and_go _ _ c.if-s-entries.true (long _ (omega arith))))

pub returns-else-s-entries : goal.returns-else-s-entries
unfolding due_lengths
returns-else-s-entries c =
    let at = (goal.at.returns-else-s-entries c).Joined-s-p-3 in
    let at₃ = (goal.at.returns-else-s-entries c).Joined-s-p-2 in
    let at₂ = (goal.at.returns-else-s-entries c).Joined-s-p in
    rw (← c.s.view_is) (five _ _ _ _ _ (two at₂) (three at₃) (four at) (c.if-s-entries.false ∙ and_stop _ _ c.if-s-entries.false))
