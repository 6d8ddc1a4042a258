-- `opening_rules::list_half_rules` meets its contract: rule by rule, what is found is what the rules from there on find.
use mathlib.Core.Path.{◌≡◌, sym, ap, ◌∙◌}
use mathlib.Core.Bool.{Bool, true}
use mathlib.Core.List.{List}
use Prim.Native.Nat.{ℕ, ◌+◌, ◌*◌, ◌≤◌}
use native.Mathlib.Omega.{arith}
use lib.ListN.{length}
use Rattle.laws.specs.Tests.{equal, every, is_equal, not_equal}
use Rattle.laws.specs.Faults.{rule, kept}
use Rattle.laws.specs.Bytes.{number}
use Rattle.laws.specs.Chunks.{piece}
use Rattle.laws.specs.Masks.{set_before}
use Rattle.protocol.specs.declared.Parameters.{Parameters}
use Rattle.protocol.specs.declared.Place.TheVariants.{InEntry}
use Rattle.protocol.specs.Terms.{sum_of_three}
use Rattle.protocol.specs.Layout.{at_entry, at_first_dice, at_link, at_ballot_half}
use Rattle.protocol.specs.Record.{entry_commitment_of, mask_of, link_place, position_of, shift_of, side_of, ballot_opening_of, list_half_place, list_opening_of}
use Rattle.protocol.specs.Rules.{numbers_below, gives, agrees, list_half_rules}
use Rattle.opening_rules.specs.Opened.{opening_at, sum_of}
use Rattle.opening_rules.proofs.Numbers.{three_summed}
use Rattle.opening_rules.proofs.Posted.{goes_on, breaks}
use Rattle.opening_rules.proofs.Places.{first_dice_before, entry_before, link_before, half_before}
use Rattle.opening_rules.proofs.list_half_rules.Goals as goal
use Rattle.opening_rules.proofs.list_half_rules.Goals.{After-at_ballot_half-half, After-at_entry-posted, After-at_link-link, After-halves_agree, After-openings_give, After-rank-rank, After-read1-side, After-read2-position, After-read4, Else-not-numbers_below, Else-not-openings_give, Else-read1-l, Else-read2-position, Start}

-- ---- the rules, at the place where the command starts

module _ (p : Parameters) (r : List ℕ) (at l j : ℕ) where
  abbrev agreed : Bool
  agreed = agrees p.modulus (side_of p r j) (sum_of_three p.modulus (ballot_opening_of p r j)) (sum_of_three p.modulus (opening_at r (at + 4))) (shift_of p r l j)

  abbrev from14 : ℕ
  from14 = rule 14 agreed kept

  abbrev posted : Bool
  posted = every (λ k. gives p (InEntry l (position_of p r l j) (2 * k + side_of p r j)) (opening_at r (at + 4) k) (piece r (at_entry p l (position_of p r l j) + 4 + 32 * (2 * k + side_of p r j)) 32)) 3

  abbrev from13 : ℕ
  from13 = rule 13 posted from14

  abbrev from10 : ℕ
  from10 = rule 10 (numbers_below p.modulus (opening_at r (at + 4)) 3) from13

  abbrev position_on : ℕ
  position_on = rule 4 (equal (number r (at + 2) 2) (position_of p r l j)) from10

  rules_at : at ≡ list_half_place p r l j → list_half_rules p r l j ≡ rule 4 (equal (number r (at + 1) 1) l) position_on
  unfolding list_half_rules list_opening_of entry_commitment_of
  rules_at e = rw e

-- what the function is to answer
abbrev all : Start → ℕ
all s = list_half_rules s.args.p s.args.bytes.now s.args.l s.args.j

-- ---- where earlier commands lie

link_inside : (s : Start) → link_place s.args.p s.args.bytes.now s.args.l s.args.j + 10 ≤ length s.args.bytes.now
unfolding link_place
link_inside s =
    let p = s.args.p in
    let r = s.args.bytes.now in
    let k = s.requires.known in
    omega (arith, s.requires.here, s.requires.whole, link_before p (set_before (mask_of p r) s.args.l) s.args.j s.args.j k.compared k.ballot, half_before p r s.args.l s.args.j)

dice_inside : (s : Start) → at_first_dice s.args.p + 35 ≤ length s.args.bytes.now
dice_inside s =
    omega (arith, s.requires.here, s.requires.whole, first_dice_before s.args.p s.args.j, half_before s.args.p s.args.bytes.now s.args.l s.args.j)

half_inside : (s : Start) → at_ballot_half s.args.p s.args.j + 112 ≤ length s.args.bytes.now
half_inside s = omega (arith, s.requires.here, s.requires.whole, half_before s.args.p s.args.bytes.now s.args.l s.args.j)

entry_inside : (s : Start) → at_entry s.args.p s.args.l (position_of s.args.p s.args.bytes.now s.args.l s.args.j) + 196 ≤ length s.args.bytes.now
entry_inside s =
    let p = s.args.p in
    let r = s.args.bytes.now in
    omega (arith, s.requires.here, s.requires.whole, entry_before p s.args.l (position_of p r s.args.l s.args.j) s.args.j s.requires.known.list s.requires.known.position, half_before p r s.args.l s.args.j)

-- ---- what is read of them

rank_read : (c : After-rank-rank) → c.rank-rank.result ≡ set_before (mask_of c.args.p c.args.bytes.now) c.args.l
rank_read c = c.rank-rank.ensures.0 ∙ ap (λ (m : ℕ). set_before m c.args.l) c.mask.ensures

link_read : (c : After-at_link-link) → c.at_link-link.result ≡ link_place c.args.p c.args.bytes.now c.args.l c.args.j
unfolding link_place
link_read c = c.at_link-link.ensures.0 ∙ ap (λ (k : ℕ). at_link c.args.p k c.args.j) (rank_read (goal.at.After-at_link-link c).After-rank-rank)

position_read : (c : After-read2-position) → c.read2-position.result ≡ position_of c.args.p c.args.bytes.now c.args.l c.args.j
unfolding position_of
position_read c = c.read2-position.ensures.0 ∙ ap (λ (a : ℕ). number c.args.bytes.now (a + 4) 2) (link_read (goal.at.After-read2-position c).After-at_link-link)

shift_read : (c : After-read4) → c.read4.result ≡ shift_of c.args.p c.args.bytes.now c.args.l c.args.j
unfolding shift_of
shift_read c = c.read4.ensures.0 ∙ ap (λ (a : ℕ). number c.args.bytes.now (a + 6) 4) (link_read (goal.at.After-read4 c).After-at_link-link)

side_read : (c : After-read1-side) → c.read1-side.result ≡ side_of c.args.p c.args.bytes.now c.args.j
unfolding side_of
side_read c = c.read1-side.ensures.0 ∙ ap (λ (a : ℕ). number c.args.bytes.now (a + 3) 1) c.at_ballot_half-half.ensures.0

half_read : (c : After-at_ballot_half-half) → opening_at c.args.bytes.now (c.at_ballot_half-half.result + 4) ≡ ballot_opening_of c.args.p c.args.bytes.now c.args.j
unfolding ballot_opening_of
half_read c = ap (λ (a : ℕ). opening_at c.args.bytes.now (a + 4)) c.at_ballot_half-half.ensures.0

entry_read : (c : After-at_entry-posted) → c.at_entry-posted.result ≡ at_entry c.args.p c.args.l (position_of c.args.p c.args.bytes.now c.args.l c.args.j)
entry_read c = c.at_entry-posted.ensures.0 ∙ ap (λ (k : ℕ). at_entry c.args.p c.args.l k) (position_read (goal.at.After-at_entry-posted c).After-read2-position)

given : (c : After-openings_give) → c.openings_give.result ≡ posted c.args.p c.args.bytes.now c.args.at c.args.l c.args.j
given c = rw (side_read (goal.at.After-openings_give c).After-read1-side, position_read (goal.at.After-openings_give c).After-read2-position, entry_read (goal.at.After-openings_give c).After-at_entry-posted) at c.openings_give.ensures

-- ---- the rules that are left

begun : (s : Start) → all s ≡ rule 4 (equal (number s.args.bytes.now (s.args.at + 1) 1) s.args.l) (position_on s.args.p s.args.bytes.now s.args.at s.args.l s.args.j)
begun s = rules_at s.args.p s.args.bytes.now s.args.at s.args.l s.args.j s.requires.here

past_list : (c : Else-read1-l) → all (goal.at.Else-read1-l c).Start ≡ position_on c.args.p c.args.bytes.now c.args.at c.args.l c.args.j
past_list c = goes_on 4 _ _ (begun (goal.at.Else-read1-l c).Start) (is_equal (omega arith))

past_position : (c : Else-read2-position) → all (goal.at.Else-read2-position c).Start ≡ from10 c.args.p c.args.bytes.now c.args.at c.args.l c.args.j
past_position c = goes_on 4 _ _ (past_list (goal.at.Else-read2-position c).Else-read1-l) (is_equal (omega (arith, position_read (goal.at.Else-read2-position c).After-read2-position)))

numbers_kept : (c : Else-not-numbers_below) → numbers_below c.args.p.modulus (opening_at c.args.bytes.now (c.args.at + 4)) 3 ≡ true
numbers_kept c = sym c.numbers_below.ensures ∙ c.if-not-numbers_below.false

past_numbers : (c : Else-not-numbers_below) → all (goal.at.Else-not-numbers_below c).Start ≡ from13 c.args.p c.args.bytes.now c.args.at c.args.l c.args.j
past_numbers c = goes_on 10 _ _ (past_position (goal.at.Else-not-numbers_below c).Else-read2-position) (numbers_kept c)

past_openings : (c : Else-not-openings_give) → all (goal.at.Else-not-openings_give c).Start ≡ from14 c.args.p c.args.bytes.now c.args.at c.args.l c.args.j
past_openings c = goes_on 13 _ _ (past_numbers (goal.at.Else-not-openings_give c).Else-not-numbers_below) (sym (given (goal.at.Else-not-openings_give c).After-openings_give) ∙ c.if-not-openings_give.false)

agrees_same : (M : ℕ) {side side' ballot ballot' list list' t t' : ℕ} → side ≡ side' → ballot ≡ ballot' → list ≡ list' → t ≡ t'
    → agrees M side ballot list t ≡ agrees M side' ballot' list' t'
agrees_same M e f g h = rw (e, f, g, h)

agreed_read : (c : After-halves_agree) → c.halves_agree.result ≡ agreed c.args.p c.args.bytes.now c.args.at c.args.l c.args.j
agreed_read c =
    let M = c.args.p.modulus in
    let side = side_read (goal.at.After-halves_agree c).After-read1-side in
    let half = half_read (goal.at.After-halves_agree c).After-at_ballot_half-half in
    let ballot = c.sum-ballot.ensures.0 ∙ ap (λ (o : ℕ → List ℕ). sum_of M o 3) half ∙ three_summed M _ c.requires.known.numbers in
    let list = c.sum-list.ensures.0 ∙ three_summed M _ (numbers_kept (goal.at.After-halves_agree c).Else-not-numbers_below) in
    let t = shift_read (goal.at.After-halves_agree c).After-read4 in
    c.halves_agree.ensures ∙ agrees_same M side ballot list t

-- ----

pub returns-then-read1-l : goal.returns-then-read1-l
returns-then-read1-l c = breaks 4 _ _ (begun (goal.at.returns-then-read1-l c).Start) (not_equal (λ e. omega arith))

pub mask-requires : goal.mask-requires
mask-requires c = (c.requires.known.few, dice_inside (goal.at.mask-requires c).Start)

pub rank-rank-requires : goal.rank-rank-requires
rank-rank-requires c = omega (arith, c.requires.known.few.compared, c.requires.known.list)

pub at_link-link-requires : goal.at_link-link-requires
at_link-link-requires c =
    (c.requires.known.few, (omega (arith, rank_read c, c.requires.known.compared, c.requires.known.few.compared), omega (arith, c.requires.known.ballot, c.requires.known.few.ballots)))

pub read2-position-requires : goal.read2-position-requires
read2-position-requires c = omega (arith, link_inside (goal.at.read2-position-requires c).Start, link_read c)

pub returns-then-read2-position : goal.returns-then-read2-position
returns-then-read2-position c = breaks 4 _ _ (past_list (goal.at.returns-then-read2-position c).Else-read1-l) (not_equal (λ e. omega (arith, position_read (goal.at.returns-then-read2-position c).After-read2-position)))

pub returns-then-not-numbers_below : goal.returns-then-not-numbers_below
returns-then-not-numbers_below c = breaks 10 _ _ (past_position (goal.at.returns-then-not-numbers_below c).Else-read2-position) (sym c.numbers_below.ensures ∙ c.if-not-numbers_below.true)

pub read1-side-requires : goal.read1-side-requires
read1-side-requires c = omega (arith, half_inside (goal.at.read1-side-requires c).Start, c.at_ballot_half-half.ensures.0)

pub at_entry-posted-requires : goal.at_entry-posted-requires
at_entry-posted-requires c =
    (c.requires.known.few, (omega (arith, c.requires.known.few.compared, c.requires.known.list), omega (arith, position_read (goal.at.at_entry-posted-requires c).After-read2-position, c.requires.known.position, c.requires.known.few.ballots)))

pub openings_give-requires : goal.openings_give-requires
openings_give-requires c =
    record {
      few = omega arith;
      opened = omega (arith, c.requires.whole);
      committed = λ k h. omega (arith, entry_read c, side_read (goal.at.openings_give-requires c).After-read1-side, c.requires.known.side, entry_inside (goal.at.openings_give-requires c).Start);
    }

pub returns-then-not-openings_give : goal.returns-then-not-openings_give
returns-then-not-openings_give c = breaks 13 _ _ (past_numbers (goal.at.returns-then-not-openings_give c).Else-not-numbers_below) (sym (given (goal.at.returns-then-not-openings_give c).After-openings_give) ∙ c.if-not-openings_give.true)

pub sum-ballot-requires : goal.sum-ballot-requires
sum-ballot-requires c =
    (omega arith, omega arith, omega (arith, half_inside (goal.at.sum-ballot-requires c).Start, c.at_ballot_half-half.ensures.0), ap (λ (o : ℕ → List ℕ). numbers_below c.args.p.modulus o 3) (half_read (goal.at.sum-ballot-requires c).After-at_ballot_half-half) ∙ c.requires.known.numbers)

pub sum-list-requires : goal.sum-list-requires
sum-list-requires c = (omega arith, omega arith, omega (arith, c.requires.whole), numbers_kept (goal.at.sum-list-requires c).Else-not-numbers_below)

pub read4-requires : goal.read4-requires
read4-requires c = omega (arith, link_inside (goal.at.read4-requires c).Start, link_read (goal.at.read4-requires c).After-at_link-link)

pub halves_agree-requires : goal.halves_agree-requires
halves_agree-requires c = (c.sum-list.ensures.1, omega (arith, shift_read c, c.requires.known.shift))

pub returns-then-not-halves_agree : goal.returns-then-not-halves_agree
returns-then-not-halves_agree c = breaks 14 _ _ (past_openings (goal.at.returns-then-not-halves_agree c).Else-not-openings_give) (sym (agreed_read (goal.at.returns-then-not-halves_agree c).After-halves_agree) ∙ c.if-not-halves_agree.true)

pub returns : goal.returns
returns c = sym (goes_on 14 _ _ (past_openings (goal.at.returns c).Else-not-openings_give) (sym (agreed_read (goal.at.returns c).After-halves_agree) ∙ c.if-not-halves_agree.false))
