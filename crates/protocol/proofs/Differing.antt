-- One board, one comparison with many disclosures, and another comparison: where every ballot but K is shown on both sides, the votes that
-- the other announces differ from those that the ballots commit in at most K places.
use mathlib.Core.Path.{◌≡◌, refl, sym, ◌∙◌}
use mathlib.Core.Logic.{◌≢◌}
use mathlib.Core.Bool.{Bool, true, false}
use mathlib.Core.List.{List}
use Prim.Native.Nat.{ℕ, ◌%◌, ◌≤◌, ◌<◌}
use native.Mathlib.Nat.{le_trans, mod-lt}
use native.Mathlib.Omega.{arith}
use Rattle.laws.specs.Tests.{differ, differ_iff}
use Rattle.laws.specs.Masks.{bit}
use Rattle.laws.proofs.Permutations.{times_perm}
use Rattle.laws.specs.Sums.{times}
use Rattle.laws.specs.Subsets.{many_below, below_within}
use Rattle.laws.specs.Binomials.{constant, Varied, varied}
use Rattle.laws.specs.Distances.{distance}
use Rattle.laws.proofs.Distances.{distance_same, distance_most}
use Rattle.protocol.specs.Terms.{Scheme}
use Rattle.protocol.specs.Layout.{lists}
use Rattle.protocol.specs.Record.{Board, Comparison, Disclosure}
use Rattle.protocol.specs.Stands.{ValidOver}
use Rattle.protocol.proofs.Committed.{six, Half}
use Rattle.protocol.proofs.Counted.{Alike, value, either}

-- a vote that is the sum of ballot j's six numbers, three shown by d and three by e
pub record Summed (b : Board) (d e : Disclosure) (j vote : ℕ) : Type 0 where
  pub openings : ℕ → List ℕ
  pub one : Half openings (d.side j) (d.ballot_opening j)
  pub other : Half openings (e.side j) (e.ballot_opening j)
  pub sum : vote ≡ six openings % b.parameters.modulus

module _ {commit : Scheme} (b : Board) (k k₃ : Comparison) (d₃ : Disclosure) (passed : ℕ → Bool) (d : ℕ → Disclosure) (votes : ℕ → ℕ) (l : ℕ)
    (ll : l < lists b.parameters) (set : bit k.mask l ≡ 1) (clear : bit k₃.mask l ≡ 0)
    (v : (s : ℕ) → passed s ≡ true → ValidOver commit b k (d s)) (z : ValidOver commit b k₃ d₃)
    (sides : (s j : ℕ) → passed s ≡ true → j < b.parameters.ballots → (d s).side j ≡ bit s j)
    (sums : (s t j : ℕ) → passed s ≡ true → passed t ≡ true → j < b.parameters.ballots → bit s j ≢ bit t j → Summed b (d s) (d t) j (votes j))
    (alike : (s : ℕ) → passed s ≡ true → Alike b k (d s) d₃ l) where
  -- a ballot shown on both sides: the entry linked to it opens to its vote
  shown_vote : (j : ℕ) → j < b.parameters.ballots → constant passed b.parameters.ballots j ≡ false → value b d₃ l (k.position l j) ≡ votes j
  shown_vote j lj c = at (varied passed b.parameters.ballots j c)
    where
      at : Varied passed b.parameters.ballots j → value b d₃ l (k.position l j) ≡ votes j
      at w =
          let s = w.one in
          let t = w.other in
          let o = sums s t j w.one_in w.other_in lj w.differ in
          either b k d₃ l ll set (d s) (d t) (v s w.one_in) (v t w.other_in) o.openings j lj
          (λ e. w.differ (sym (sides s j w.one_in lj) ∙ e ∙ sides t j w.other_in lj)) o.one o.other
          (alike s w.one_in) (alike t w.other_in)
          ∙ sym o.sum

  linked : ℕ → ℕ
  linked j = value b d₃ l (k.position l j)

  -- the votes announced are those of the linked entries, in some order; s is one that passed, whose disclosure says that the positions are a permutation
  pub few_differ : (s : ℕ) → passed s ≡ true
      → distance b.parameters.modulus d₃.vote votes b.parameters.ballots ≤ many_below (constant passed b.parameters.ballots) b.parameters.ballots
  unfolding linked
  few_differ s e =
      let n : ℕ = b.parameters.ballots in
      let M : ℕ = b.parameters.modulus in
      let often : (x : ℕ) → times x d₃.vote n ≡ times x linked n = λ x. sym (z.values l ll clear x) ∙ sym (times_perm x (value b d₃ l) (k.position l) n ((v s e).positions l ll set)) in
      rw (distance_same M d₃.vote linked votes n often)
      (le_trans (distance_most M linked votes n (λ j lj. mod-lt (six (d₃.full_opening l (k.position l j))) (omega (arith, z.modulus_low))))
      (below_within (λ j. differ (linked j) (votes j)) (constant passed n) n (λ j lj ne. go j lj ne (constant passed n j) refl)))
    where
      go : (j : ℕ) → j < b.parameters.ballots → differ (linked j) (votes j) ≡ true → (c : Bool) → constant passed b.parameters.ballots j ≡ c
          → constant passed b.parameters.ballots j ≡ true
      go j lj ne true c = c
      go j lj ne false c = absurd ((differ_iff (linked j) (votes j)).0 ne (shown_vote j lj c))
