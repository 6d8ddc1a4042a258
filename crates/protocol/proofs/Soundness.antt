-- Three records that are proofs over any commitment scheme: the third announces what the ballots commit, or a commitment is opened in two
-- ways.
use mathlib.Core.Path.{◌≡◌, refl, sym, ap, subst, ◌∙◌}
use mathlib.Core.Logic.{◌⊎◌, inl, inr, ◌≢◌}
use mathlib.Core.List.{List}
use Prim.Native.Nat.{ℕ, ◌+◌, ◌*◌, ◌<◌}
use lib.ListN.{take}
use Rattle.laws.specs.Masks.{bit}
use Rattle.laws.specs.Sums.{times}
use Rattle.protocol.specs.declared.Parameters.{Parameters}
use Rattle.protocol.specs.declared.Place.{Place}
use Rattle.protocol.specs.declared.Place.TheVariants.{InBallot, InEntry}
use Rattle.protocol.specs.Terms.{Scheme}
use Rattle.protocol.specs.Layout.{lists, at_first_dice, at_second_dice}
use Rattle.protocol.specs.Record.{Board, Comparison, Disclosure, parameters_of, id_of, ballot_commitment_of, entry_commitment_of, first_dice_of, mask_of, position_of, shift_of, second_dice_of, side_of, ballot_opening_of, list_opening_of, vote_of, full_opening_of}
use Rattle.protocol.specs.Stands.{ValidOver, StandsOver}
use Rattle.protocol.specs.Demand3.{before_first_dice, before_second_dice, CommitsOver, Posted, by_ballot, by_entry, Shown, in_ballot_half, in_list_half, in_full_opening, OpenedTwiceOver, AnnouncesOver}
use Rattle.protocol.proofs.Alike.{parameters_alike, id_alike, ballot_alike, entry_alike, dice_alike, mask_alike, position_alike, shift_alike}
use Rattle.protocol.proofs.Transport.{slot_in, board_with, board_moved, comparison_with, comparison_moved}
use Rattle.protocol.proofs.Committed.{both, both_one, both_other, both_give}
use Rattle.protocol.proofs.Counted.{rank_below, Clash, vote, counted}

-- ---- what a record says, its parameters given

abbrev pub board_at : Parameters → List ℕ → Board
board_at p r = board_with p (id_of p r) (ballot_commitment_of p r) (entry_commitment_of p r)

abbrev pub comparison_at : Parameters → List ℕ → Comparison
comparison_at p r = comparison_with (first_dice_of p r) (mask_of p r) (position_of p r) (shift_of p r)

abbrev pub disclosure_at : Parameters → List ℕ → Disclosure
disclosure_at p r =
    record {
      dice = second_dice_of p r;
      side = side_of p r;
      ballot_opening = ballot_opening_of p r;
      list_opening = list_opening_of p r;
      vote = vote_of p r;
      full_opening = full_opening_of p r;
    }

-- a proof, over the board of a record with the same bytes before the first dice
pub over_board : {commit : Scheme} (p : Parameters) (r s : List ℕ) → parameters_of s ≡ p → take (at_first_dice p) s ≡ take (at_first_dice p) r → StandsOver commit s
    → ValidOver commit (board_at p r) (comparison_at p s) (disclosure_at p s)
over_board {commit} p r s e alike h =
    board_moved p (id_of p s) (id_of p r) (ballot_commitment_of p s) (ballot_commitment_of p r) (entry_commitment_of p s) (entry_commitment_of p r) (comparison_at p s) (disclosure_at p s)
    (id_alike p s r alike) (ballot_alike p s r alike) (entry_alike p s r alike)
    (subst (λ (x : Parameters). ValidOver commit (board_at x s) (comparison_at x s) (disclosure_at x s)) e h.valid)

-- and over its comparison, with the same bytes before the second dice
pub over_comparison : {commit : Scheme} (p : Parameters) (q r s : List ℕ) (d : Disclosure) → take (at_second_dice p) s ≡ take (at_second_dice p) r
    → ValidOver commit (board_at p q) (comparison_at p s) d → ValidOver commit (board_at p q) (comparison_at p r) d
over_comparison {commit} p q r s d alike v =
    comparison_moved (board_at p q) (first_dice_of p r) (mask_of p r) (position_of p s) (position_of p r) (shift_of p s) (shift_of p r) d
    (λ l j ll set lj. position_alike p s r alike l j (rank_below w l ll set) lj) (λ l j ll set lj. shift_alike p s r alike l j (rank_below w l ll set) lj) w
  where
    w : ValidOver commit (board_at p q) (comparison_with (first_dice_of p r) (mask_of p r) (position_of p s) (shift_of p s)) d
    w = rw (dice_alike p s r alike, mask_alike p s r alike) at v

-- ---- what is shown

module _ (p : Parameters) (r : List ℕ) (e : parameters_of r ≡ p) where
  pub ballot_half_shown : (j c : ℕ) → j < p.ballots → c < 3 → Shown r (InBallot (id_of p r j) (2 * c + side_of p r j)) (ballot_opening_of p r j c)
  ballot_half_shown j c =
      subst (λ (x : Parameters). j < x.ballots → c < 3 → Shown r (InBallot (id_of x r j) (2 * c + side_of x r j)) (ballot_opening_of x r j c)) e (in_ballot_half j c)

  pub ballot_posted : (j q : ℕ) → j < p.ballots → q < 6 → Posted r (InBallot (id_of p r j) q) (ballot_commitment_of p r j q)
  ballot_posted j q = subst (λ (x : Parameters). j < x.ballots → q < 6 → Posted r (InBallot (id_of x r j) q) (ballot_commitment_of x r j q)) e (by_ballot j q)

  half_shown : (l j c : ℕ) → l < lists p → bit (mask_of p r) l ≡ 1 → j < p.ballots → c < 3
      → Shown r (InEntry l (position_of p r l j) (2 * c + side_of p r j)) (list_opening_of p r l j c)
  half_shown l j c =
      subst
      (λ (x : Parameters). l < lists x → bit (mask_of x r) l ≡ 1 → j < x.ballots → c < 3
      → Shown r (InEntry l (position_of x r l j) (2 * c + side_of x r j)) (list_opening_of x r l j c))
      e (in_list_half l j c)

  full_shown : (l i q : ℕ) → l < lists p → bit (mask_of p r) l ≡ 0 → i < p.ballots → q < 6 → Shown r (InEntry l i q) (full_opening_of p r l i q)
  full_shown l i q =
      subst (λ (x : Parameters). l < lists x → bit (mask_of x r) l ≡ 0 → i < x.ballots → q < 6 → Shown r (InEntry l i q) (full_opening_of x r l i q)) e (in_full_opening l i q)

  entry_posted : (l i q : ℕ) → l < lists p → i < p.ballots → q < 6 → Posted r (InEntry l i q) (entry_commitment_of p r l i q)
  entry_posted l i q =
      subst (λ (x : Parameters). l < lists x → i < x.ballots → q < 6 → Posted r (InEntry l i q) (entry_commitment_of x r l i q)) e (by_entry l i q)

-- two openings that differ, shown by a record r of the pair and by the third
pub clash_twice : {commit : Scheme} (p : Parameters) (r₁ r₂ r₃ r : List ℕ) → parameters_of r₁ ≡ p → parameters_of r ≡ p → parameters_of r₃ ≡ p
    → take (at_second_dice p) r ≡ take (at_second_dice p) r₁
    → ValidOver commit (board_at p r₁) (comparison_at p r₁) (disclosure_at p r) → ValidOver commit (board_at p r₁) (comparison_at p r₃) (disclosure_at p r₃)
    → ((place : Place) (o : List ℕ) → Shown r place o → Shown r₁ place o ⊎ (Shown r₂ place o ⊎ Shown r₃ place o))
    → Clash (board_at p r₁) (comparison_at p r₁) (disclosure_at p r) (comparison_at p r₃) (disclosure_at p r₃) → OpenedTwiceOver commit r₁ r₂ r₃
clash_twice p r₁ r₂ r₃ r e₁ e e₃ alike v v₃ shown t = record {
  place = InEntry l i q;
  posted = entry_commitment_of p r₁ l i q;
  one = list_opening_of p r l j c;
  other = full_opening_of p r₃ l i q;
  is_posted = entry_posted p r₁ e₁ l i q t.list_in li lq;
  differ = t.differ;
  one_gives = v.list_opens l j c t.list_in t.set t.ballot_in t.slot_in;
  other_gives = v₃.full_opens l i q t.list_in t.clear li lq;
  one_shown = shown (InEntry l i q) (list_opening_of p r l j c) half;
  other_shown = inr (inr (full_shown p r₃ e₃ l i q t.list_in t.clear li lq));
}
  where
    l : ℕ
    l = t.list

    j : ℕ
    j = t.ballot

    c : ℕ
    c = t.slot

    i : ℕ
    i = position_of p r₁ l j

    q : ℕ
    q = 2 * c + side_of p r j

    li : i < p.ballots
    li = (v.positions l t.list_in t.set).below j t.ballot_in

    lq : q < 6
    lq = slot_in c (side_of p r j) t.slot_in (v.sides j t.ballot_in)

    half : Shown r (InEntry l i q) (list_opening_of p r l j c)
    half =
        rw (← position_alike p r r₁ alike l j (rank_below v l t.list_in t.set) t.ballot_in)
        (half_shown p r e l j c t.list_in (rw (mask_alike p r r₁ alike) t.set) t.ballot_in t.slot_in)

-- ---- what is committed

-- over any parameters that are those of both records
pub commits : {commit : Scheme} {k₁ k₂ : Comparison} (p : Parameters) (r₁ r₂ : List ℕ) → parameters_of r₁ ≡ p → parameters_of r₂ ≡ p
    → ValidOver commit (board_at p r₁) k₁ (disclosure_at p r₁) → ValidOver commit (board_at p r₁) k₂ (disclosure_at p r₂)
    → (j : ℕ) → j < p.ballots → side_of p r₁ j ≢ side_of p r₂ j → CommitsOver commit r₁ r₂ j (vote (board_at p r₁) (disclosure_at p r₁) (disclosure_at p r₂) j)
commits {commit} p r₁ r₂ e₁ e₂ v w j lj ne = record {
  openings = o;
  shown₁ = λ c lc. rw e₁ (both_one (disclosure_at p r₁) (disclosure_at p r₂) j c (v.sides j lj));
  shown₂ = λ c lc. rw e₂ (both_other (disclosure_at p r₁) (disclosure_at p r₂) j c (w.sides j lj) ne);
  gives = λ q lq.
      rw e₁
      (both_give (disclosure_at p r₁) (disclosure_at p r₂) j commit (InBallot (id_of p r₁ j)) (ballot_commitment_of p r₁ j) (v.sides j lj) (w.sides j lj) ne
      (λ c. v.ballot_opens j c lj) (λ c. w.ballot_opens j c lj) q lq);
  sum = rw e₁ refl;
}
  where
    o : ℕ → List ℕ
    o = both (disclosure_at p r₁) (disclosure_at p r₂) j

-- ---- soundness

pub sound_over : (commit : Scheme) (r₁ r₂ r₃ : List ℕ) → StandsOver commit r₁ → StandsOver commit r₂ → StandsOver commit r₃
    → before_first_dice r₁ ≡ before_first_dice r₂ → before_first_dice r₁ ≡ before_first_dice r₃ → before_second_dice r₁ ≡ before_second_dice r₂
    → ((j : ℕ) → j < (parameters_of r₁).ballots → side_of (parameters_of r₁) r₁ j ≢ side_of (parameters_of r₂) r₂ j)
    → mask_of (parameters_of r₁) r₁ ≢ mask_of (parameters_of r₃) r₃ → AnnouncesOver commit r₁ r₂ r₃ ⊎ OpenedTwiceOver commit r₁ r₂ r₃
sound_over commit r₁ r₂ r₃ h₁ h₂ h₃ a₂ a₃ a sides masks =
    go (counted (board_at p r₁) (comparison_at p r₁) (disclosure_at p r₁) (disclosure_at p r₂) (comparison_at p r₃) (disclosure_at p r₃) v₁ v₂ v₃ apart (rw e₃ at masks))
  where
    p : Parameters
    p = parameters_of r₁

    e₂ : parameters_of r₂ ≡ p
    e₂ = sym (parameters_alike r₁ r₂ a₂)

    e₃ : parameters_of r₃ ≡ p
    e₃ = sym (parameters_alike r₁ r₃ a₃)

    first₂ : take (at_first_dice p) r₂ ≡ take (at_first_dice p) r₁
    first₂ = ap (λ (x : Parameters). take (at_first_dice x) r₂) (sym e₂) ∙ sym a₂

    first₃ : take (at_first_dice p) r₃ ≡ take (at_first_dice p) r₁
    first₃ = ap (λ (x : Parameters). take (at_first_dice x) r₃) (sym e₃) ∙ sym a₃

    second₂ : take (at_second_dice p) r₂ ≡ take (at_second_dice p) r₁
    second₂ = ap (λ (x : Parameters). take (at_second_dice x) r₂) (sym e₂) ∙ sym a

    v₁ : ValidOver commit (board_at p r₁) (comparison_at p r₁) (disclosure_at p r₁)
    v₁ = h₁.valid

    v₂ : ValidOver commit (board_at p r₁) (comparison_at p r₁) (disclosure_at p r₂)
    v₂ = over_comparison p r₁ r₁ r₂ (disclosure_at p r₂) second₂ (over_board p r₁ r₂ e₂ first₂ h₂)

    v₃ : ValidOver commit (board_at p r₁) (comparison_at p r₃) (disclosure_at p r₃)
    v₃ = over_board p r₁ r₃ e₃ first₃ h₃

    apart : (j : ℕ) → j < p.ballots → side_of p r₁ j ≢ side_of p r₂ j
    apart j lj = rw e₂ at (sides j lj)

    go : ((x : ℕ) → times x (vote_of p r₃) p.ballots ≡ times x (vote (board_at p r₁) (disclosure_at p r₁) (disclosure_at p r₂)) p.ballots)
        ⊎ (Clash (board_at p r₁) (comparison_at p r₁) (disclosure_at p r₁) (comparison_at p r₃) (disclosure_at p r₃)
        ⊎ Clash (board_at p r₁) (comparison_at p r₁) (disclosure_at p r₂) (comparison_at p r₃) (disclosure_at p r₃))
        → AnnouncesOver commit r₁ r₂ r₃ ⊎ OpenedTwiceOver commit r₁ r₂ r₃
    go (inl often) =
        inl record {
          committed = vote (board_at p r₁) (disclosure_at p r₁) (disclosure_at p r₂);
          commits = λ j lj. commits p r₁ r₂ refl e₂ v₁ v₂ j lj (apart j lj);
          as_often = λ x. rw e₃ (often x);
        }
    go (inr (inl t)) = inr (clash_twice p r₁ r₂ r₃ r₁ refl refl e₃ refl v₁ v₃ (λ place o s. inl s) t)
    go (inr (inr t)) = inr (clash_twice p r₁ r₂ r₃ r₂ refl e₂ e₃ second₂ v₂ v₃ (λ place o s. inr (inl s)) t)
