-- What a stage that has passed tells those behind it.
use mathlib.Core.Path.{◌≡◌, refl, sym, ap, ◌∙◌}
use mathlib.Core.Bool.{Bool, true}
use mathlib.Core.List.{List, ◌++◌}
use Prim.Native.Nat.{ℕ, zero, suc, ◌+◌, ◌-◌, ◌*◌, ◌^◌, ◌≤◌, ◌<◌}
use native.Mathlib.Nat.{le_trans, le_of_eq, zero-add}
use native.Mathlib.Decide.{ℕ_discrete}
use native.Mathlib.Omega.{arith}
use lib.Count.{ones}
use lib.ListN.{length, take}
use Rattle.laws.specs.Faults.{Nothing}
use Rattle.laws.specs.Faults.{first, rules, then_nothing}
use Rattle.laws.specs.Masks.{bit, set_before, bit_small, set_ones, set_rank}
use Rattle.laws.specs.Chunks.{piece, piece_join}
use Rattle.sha3.specs.declared.Sponge.{Sponge}
use Rattle.sha3.specs.Sha3.{absorb_bytes, empty}
use Rattle.protocol.specs.declared.Parameters.{Parameters}
use Rattle.protocol.specs.declared.Due.{Due}
use Rattle.protocol.specs.declared.Due.TheVariants.{First, Ballot, Entry, FirstDice, Link, BallotHalf, Vote, FullOpening}
use Rattle.protocol.specs.Terms.{opened}
use Rattle.protocol.specs.Layout.{first_width, width, lists, at_ballot, at_entry, at_first_dice, at_link, at_second_dice}
use Rattle.protocol.specs.Record.{parameters_of, mask_of, link_place, position_of, shift_of, side_of, ballot_opening_of, vote_of, full_opening_of}
use Rattle.protocol.specs.Drawing.{challenge}
use Rattle.protocol.specs.Rules.{numbers_below, place_of, rules as rules_of, fault}
use Rattle.protocol.specs.Judging.{found, found_with, if_compared, entry_faults, link_faults, vote_faults, part_one_faults, part_two_faults}
use Rattle.protocol.proofs.Lengths.{entry_next, entry_list_end, entries_end, first_dice_next, link_next, link_list_end, links_end}
use Rattle.protocol.proofs.Tested.{fault_iff, first_tests, first_dice_tests, link_tests, ballot_half_tests, vote_tests, full_tests}
use Rattle.challenge.specs.Text.{absorb_more}
use Rattle.layout.specs.Bounds.{Few}
use Rattle.rules.specs.Known.{ListHalfKnown, FullKnown}
use Rattle.verifier.specs.Passed.{Started, FirstDicePassed, HalfPassed, VotesPassed}
use Rattle.verifier.proofs.Stages.{found_nothing}

-- ---- commands that stand

module _ (drawn : Bool) (p : Parameters) (r : List ℕ) where
  -- a command that stands keeps its rules and ends inside of the record
  pub stands_rules : (d : Due) → fault p r drawn d ≡ 0 → rules_of p r drawn d ≡ 0
  stands_rules d e = ((fault_iff drawn p r d).0 e).1.1

  pub stands_whole : (d : Due) → fault p r drawn d ≡ 0 → place_of p r d + width p d ≤ length r
  stands_whole d e = ((fault_iff drawn p r d).0 e).1.0

  -- ---- the mask

  module _ (k : fault p r drawn FirstDice ≡ 0) where
    pub mask_shape : (ones (mask_of p r) ≡ p.compared) × (mask_of p r < 2 ^ (2 * p.compared))
    mask_shape = ((first_dice_tests drawn p r).0 (stands_rules FirstDice k)).1.0

    pub compared_rank : (l : ℕ) → l < lists p → bit (mask_of p r) l ≡ 1 → set_before (mask_of p r) l < p.compared
    compared_rank l ll b = set_rank p.compared (mask_of p r) l mask_shape.0 mask_shape.1 ll b

  -- ---- links

  pub links_stand : first (λ l. if_compared p r l (link_faults drawn p r l)) (lists p) ≡ Nothing
      → (l : ℕ) → l < lists p → bit (mask_of p r) l ≡ 1 → (j : ℕ) → j < p.ballots → fault p r drawn (Link l j) ≡ 0
  unfolding if_compared link_faults found_with
  links_stand e l ll b j lj = let t = simp rules at e in t l ll (λ z. omega arith) j lj

  pub link_position_lem : (l j : ℕ) → fault p r drawn (Link l j) ≡ 0 → position_of p r l j < p.ballots
  link_position_lem l j e = ((link_tests drawn p r l j).0 (stands_rules (Link l j) e)).1.1.0

  pub link_shift_lem : (l j : ℕ) → fault p r drawn (Link l j) ≡ 0 → shift_of p r l j < p.modulus
  link_shift_lem l j e = ((link_tests drawn p r l j).0 (stands_rules (Link l j) e)).1.1.1.1

-- what a dice command's text is, by its place
pub text_at : (r : List ℕ) {drawn : Bool} {prefix : Sponge} {text : List ℕ} {at a : ℕ} → at ≡ a
    → (drawn ≡ true → at + 31 ≤ length r → prefix ≡ absorb_bytes 144 empty (take at r) → text ≡ challenge (piece r (at + 1) 30) (take at r))
    → drawn ≡ true → a + 31 ≤ length r → prefix ≡ absorb_bytes 144 empty (take a r) → text ≡ challenge (piece r (a + 1) 30) (take a r)
text_at r e h = rw e at h

-- what the mask's reading asks
pub mask_there : {drawn : Bool} {p : Parameters} {r : List ℕ} → FirstDicePassed drawn p r → Few p × (at_first_dice p + 35 ≤ length r)
mask_there {drawn} {p} {r} h = (h.few, stands_whole drawn p r FirstDice h.first_dice)

-- ---- halves, votes and full openings

module _ (drawn : Bool) (p : Parameters) (r : List ℕ) where
  below_true : (openings : ℕ → List ℕ) (k : ℕ) → ((i : ℕ) → i < k → opened (openings i) < p.modulus) → numbers_below p.modulus openings k ≡ true
  unfolding numbers_below
  below_true openings k h = simp rules h

  pub half_side : (j : ℕ) → fault p r drawn (BallotHalf j) ≡ 0 → side_of p r j ≤ 1
  half_side j e = ((ballot_half_tests drawn p r j).0 (stands_rules drawn p r (BallotHalf j) e)).1.1.0

  pub half_numbers : (j : ℕ) → fault p r drawn (BallotHalf j) ≡ 0 → numbers_below p.modulus (ballot_opening_of p r j) 3 ≡ true
  half_numbers j e = below_true (ballot_opening_of p r j) 3 ((ballot_half_tests drawn p r j).0 (stands_rules drawn p r (BallotHalf j) e)).1.0

  pub votes_rise : vote_faults drawn p r p.ballots ≡ Nothing → (i : ℕ) → suc i < p.ballots → vote_of p r i ≤ vote_of p r (suc i)
  unfolding vote_faults found_with
  votes_rise e i h = let t = simp rules at e in ((vote_tests drawn p r (suc i)).0 (stands_rules drawn p r (Vote (suc i)) (t (suc i) h))).1.1 i refl

  pub full_numbers : (l i : ℕ) → first (λ i. found drawn p r (FullOpening l i)) i ≡ Nothing
      → (k : ℕ) → k < i → numbers_below p.modulus (full_opening_of p r l k) 6 ≡ true
  unfolding found_with
  full_numbers l i e k h =
      let t = simp rules at e in
      below_true (full_opening_of p r l k) 6 ((full_tests drawn p r l k).0 (stands_rules drawn p r (FullOpening l k) (t k h))).1.1.0

-- ---- what the command reader is told

pub half_known : {drawn : Bool} {p : Parameters} {r : List ℕ} {j l : ℕ} → HalfPassed drawn p r j → l < lists p → bit (mask_of p r) l ≡ 1 → ListHalfKnown p r l j
half_known {drawn} {p} {r} {j} {l} h ll b =
    let link : fault p r drawn (Link l j) ≡ 0 = links_stand drawn p r h.links.links l ll b j h.ballot in
    record {
      few = h.links.dice.few;
      list = ll;
      ballot = h.ballot;
      compared = compared_rank drawn p r h.links.dice.first_dice l ll b;
      position = link_position_lem drawn p r l j link;
      shift = link_shift_lem drawn p r l j link;
      side = half_side drawn p r j h.half;
      numbers = half_numbers drawn p r j h.half;
    }

pub full_known : {drawn : Bool} {p : Parameters} {r : List ℕ} {l i : ℕ} → VotesPassed drawn p r → l < lists p → i < p.ballots
    → first (λ i. found drawn p r (FullOpening l i)) i ≡ Nothing → FullKnown p r l i
full_known {drawn} {p} {r} {l} {i} h ll li z = record {
  few = h.dice.few;
  list = ll;
  position = li;
  earlier = full_numbers drawn p r l i z;
  votes = votes_rise drawn p r h.votes;
}

-- ---- parts

module _ (drawn : Bool) (p : Parameters) (r : List ℕ) where
  -- ---- the first command

  pub started : fault (parameters_of r) r drawn First ≡ 0 → p ≡ parameters_of r → Started p r
  started e s =
      let t = (first_tests drawn p r).0 ((fault_iff drawn (parameters_of r) r First).0 e).1.1 in
      rw s (record { few = record { ballots = t.1.0.1; compared = t.1.1.1 }; ballots_low = t.1.0.0; compared_low = t.1.1.0; whole = omega (arith, stands_whole drawn (parameters_of r) r First e) })

  -- ---- part one

  -- ballots that stand end inside of the record
  pub ballots_reach : (k : ℕ) → first_width p ≤ length r → first (λ j. found drawn p r (Ballot j)) k ≡ Nothing → at_ballot p k ≤ length r
  unfolding at_ballot found_with
  ballots_reach zero h e = omega arith
  ballots_reach (suc k) h e =
      let t = simp rules at e in
      let w : first_width p + 197 * k + 197 ≤ length r = stands_whole drawn p r (Ballot k) (t k (omega arith)) in
      omega arith

  pub part_one_reaches : part_one_faults drawn p r ≡ Nothing → 1 ≤ p.ballots → 1 ≤ p.compared → at_first_dice p ≤ length r
  unfolding part_one_faults entry_faults found_with
  part_one_reaches e n m =
      let l = lists p - 1 in
      let i = p.ballots - 1 in
      let t = simp rules at e in
      let w : at_entry p l i + 196 ≤ length r = stands_whole drawn p r (Entry l i) (t.1 l (omega arith) i (omega arith)) in
      let si : suc i ≡ p.ballots = omega arith in
      let sl : suc l ≡ lists p = omega arith in
      let end : at_entry p l i + 196 ≡ at_first_dice p =
      entry_next p l i ∙ ap (at_entry p l) si ∙ entry_list_end p l ∙ ap (λ (x : ℕ). at_entry p x 0) sl ∙ entries_end p in
      rw end at w

  -- ---- part two

  module _ (k : fault p r drawn FirstDice ≡ 0) (s : first (λ l. if_compared p r l (link_faults drawn p r l)) (lists p) ≡ Nothing) (n : 1 ≤ p.ballots) where
    -- the links of the compared lists below l end inside of the record
    links_reach : (l : ℕ) → l ≤ lists p → at_link p (set_before (mask_of p r) l) 0 ≤ length r
    unfolding link_place
    links_reach zero h = le_trans (le_of_eq (sym (first_dice_next p))) (stands_whole drawn p r FirstDice k)
    links_reach (suc l) h = go (ℕ_discrete (bit (mask_of p r) l) 0) (links_reach l (omega arith))
      where
        go : Dec (bit (mask_of p r) l ≡ 0) → at_link p (set_before (mask_of p r) l) 0 ≤ length r → at_link p (set_before (mask_of p r) (suc l)) 0 ≤ length r
        go (yes z) ih = let e : set_before (mask_of p r) (suc l) ≡ set_before (mask_of p r) l = omega arith in rw e ih
        go (no ne) ih =
            let b : bit (mask_of p r) l ≡ 1 = omega (arith, bit_small (mask_of p r) l) in
            let c = set_before (mask_of p r) l in
            let i = p.ballots - 1 in
            let w : at_link p c i + 10 ≤ length r = stands_whole drawn p r (Link l i) (links_stand drawn p r s l (omega arith) b i (omega arith)) in
            let si : suc i ≡ p.ballots = omega arith in
            let sc : suc c ≡ set_before (mask_of p r) (suc l) = omega arith in
            let end : at_link p c i + 10 ≡ at_link p (set_before (mask_of p r) (suc l)) 0 =
            link_next p c i ∙ ap (at_link p c) si ∙ link_list_end p c ∙ ap (λ (x : ℕ). at_link p x 0) sc in
            rw end at w

    pub part_two_reaches : at_second_dice p ≤ length r
    part_two_reaches =
        let m = mask_shape drawn p r k in
        let e : set_before (mask_of p r) (lists p) ≡ p.compared = set_ones (lists p) (mask_of p r) m.1 ∙ m.0 in
        le_trans (le_of_eq (sym (ap (λ (x : ℕ). at_link p x 0) e ∙ links_end p))) (links_reach (lists p) (omega arith))

  pub part_two_stands : part_two_faults drawn p r ≡ Nothing
      → (fault p r drawn FirstDice ≡ 0) × (first (λ l. if_compared p r l (link_faults drawn p r l)) (lists p) ≡ Nothing)
  unfolding part_two_faults
  part_two_stands e = let t = (then_nothing _ _).0 e in ((found_nothing drawn p r FirstDice).0 t.0, t.1)

-- ---- the sponge goes on from one place to another

pub prefix_more : (r : List ℕ) (c d : ℕ) → c ≤ d → take c r ++ piece r c (d - c) ≡ take d r
prefix_more r c d h = let e : c + (d - c) ≡ d = omega arith in ap (λ (a : ℕ). take c r ++ piece r a (d - c)) (sym (zero-add c)) ∙ piece_join r 0 c (d - c) ∙ ap (piece r 0) e

-- what the sponge has taken in: all before the first dice, and on to the second
pub prefix_start : (r : List ℕ) {s t : Sponge} {d a : ℕ} → s ≡ empty → d ≡ a → t ≡ absorb_bytes 144 s (piece r 0 (d - 0)) → t ≡ absorb_bytes 144 empty (take a r)
prefix_start r {s} {t} {d} {a} e q h = let n : d - 0 ≡ a = omega arith in rw (e, n) at h

pub prefix_on : (r : List ℕ) {s t : Sponge} {b c d e : ℕ} → s ≡ absorb_bytes 144 empty (take b r) → c ≡ b → e ≡ d → b ≤ d
    → t ≡ absorb_bytes 144 s (piece r c (e - c)) → t ≡ absorb_bytes 144 empty (take d r)
prefix_on r {s} {t} {b} {c} {d} {e} h q w l k =
    rw (q, w) at k ∙ absorb_more (take b r) (piece r b (d - b)) h ∙ ap (absorb_bytes 144 empty) (prefix_more r b d l)
